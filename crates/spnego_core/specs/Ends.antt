-- What an initiator is begun with, and what its end is, by plain values: its mechanisms are those
-- of its credentials.
use Rattle.std.specs.Prelude.{ℕ, Bool, List, Option}
use Rattle.gss_base.specs.declared.mech.MechKind.{MechKind}
use Rattle.spnego_core.specs.declared.outcome.Outcome.{Outcome}
use Rattle.spnego_core.specs.declared.setup.MechCred.{MechCred}
use Rattle.spnego_core.specs.declared.setup.InitFacts.{InitFacts}
use Rattle.spnego_core.specs.MechStates.{InitMech}

-- what an initiator is begun with: its credentials, the preferred first; the channel bindings; the
-- moment of its request, which no other request of its client has; random octets, used once
pub record PlainSetup : Type 0 where
  pub list : List MechCred
  pub bindings : Option (List ℕ)
  pub stamp : ℕ
  pub draws : List ℕ
  -- it negotiates; else its first token is the mechanism's own
  pub negotiates : Bool

-- it sent its first token: what it was begun with, and its first mechanism, which runs
pub record OpeningSays : Type 0 where
  pub own : PlainSetup
  pub mech : InitMech

-- what is known once the acceptor chose: the mechanism, and whether some reply said request-mic
pub record TalkSays : Type 0 where
  pub own : PlainSetup
  pub chosen : MechKind
  pub asked : Bool

-- the chosen mechanism isn't done
pub record TalkingSays : Type 0 where
  pub talk : TalkSays
  pub mech : InitMech

-- the mechanism is done with this outcome, and the own MIC was sent; whether the acceptor's MIC
-- over the own list was verified
pub record SignedSays : Type 0 where
  pub talk : TalkSays
  pub outcome : Outcome
  pub listed : Bool

-- what an initiator's end is, by what was done last
pub data EndSays : Type 0 where
  -- its first token was sent
  Opens : OpeningSays → EndSays
  -- a further token of the mechanism was sent
  Talks : TalkingSays → EndSays
  -- the own MIC was sent
  Signed : SignedSays → EndSays

-- ---- the same of the program's own

-- what an initiator with these facts is begun with
abbrev pub setup_of : InitFacts → PlainSetup
setup_of facts = record {
  list = facts.list;
  bindings = facts.bindings;
  stamp = facts.stamp;
  draws = facts.draws;
  negotiates = facts.negotiates;
}
