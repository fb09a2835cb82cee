-- What an end of a negotiation is left with.
use Rattle.gss_base.specs.declared.mech.MechKind.{MechKind}
use Rattle.krb_tokens.specs.declared.done.MechDone.{MechDone}
use Rattle.krb_tokens.specs.declared.end.Side.{Side}
use Rattle.krb_tokens.specs.declared.end.TokenEnd.{TokenEnd}
use Rattle.spnego_core.specs.declared.outcome.Outcome.{Outcome}

-- the outcome of a finished mechanism
abbrev pub outcome_of : MechKind → MechDone → Outcome
outcome_of mech made = record {
  mech = mech;
  initiator = made.initiator;
  acceptor = made.acceptor;
  key = made.key;
  subkey = made.subkey;
  hash = made.hash;
}

-- the end of the context that makes and reads per-message tokens at this side
abbrev pub token_end : Outcome → Side → TokenEnd
token_end outcome side = record { key = outcome.key; side = side; subkey = outcome.subkey }
