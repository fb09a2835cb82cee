-- An honest pair: an initiator whose list begins with a Kerberos credential, under either of the
-- mechanism's identifiers, alone or before others, and an acceptor that offers Kerberos.
use Rattle.std.specs.Prelude.{◌≡◌, ℕ, true, false, List, ◌∷◌, Option, Some, None, Ok}
use Rattle.gss_base.specs.declared.mech.KerberosName.{KerberosName}
use Rattle.gss_base.specs.declared.mech.MechName.TheVariants as names
use Rattle.gss_base.specs.declared.mech.MechKind.TheVariants.{Kerberos}
use Rattle.gss_base.specs.Mech.{oid_named}
use Rattle.krb_tokens.specs.declared.end.Side.TheVariants.{Initiator, Acceptor}
use Rattle.krb_files.specs.Granted.{Granted}
use Rattle.spnego_msgs.specs.declared.neg_resp.NegResp.{NegResp}
use Rattle.spnego_msgs.specs.NegInit.{neg_init}
use Rattle.spnego_msgs.specs.NegResp.{neg_resp}
use Rattle.ap_exchange.specs.declared.judged.Judged.{Judged}
use Rattle.ap_exchange.specs.Request.{waiting, request_token}
use Rattle.ap_exchange.specs.Answer.{answer_token}
use Rattle.ap_exchange.specs.Laws.{honest_judged}
use Rattle.spnego_core.specs.declared.setup.AcceptSetup.{AcceptSetup}
use Rattle.spnego_core.specs.declared.setup.MechCred.{MechCred}
use Rattle.spnego_core.specs.declared.setup.MechCred.TheVariants as creds
use Rattle.spnego_core.specs.declared.accept_end.Turn.TheVariants.{First}
use Rattle.spnego_core.specs.MechStates as mechs
use Rattle.spnego_core.specs.Ends.{PlainSetup, EndSays}
use Rattle.spnego_core.specs.Ends as inits
use Rattle.spnego_core.specs.ListMic.{list_mic}
use Rattle.spnego_core.specs.Choice.{is_first}
use Rattle.spnego_core.specs.Tokens.{init_octets}
use Rattle.spnego_core.specs.Accepting as accepting
use Rattle.spnego_core.specs.Initiating as initiating
use Rattle.spnego_core.specs.PairLaws.{Pair, pair_outcome, DoneAtOnce, DoneAfterMics}

-- the setup of an initiator with this credential first, under this identifier of Kerberos, and
-- these behind it
abbrev pub setup_named : KerberosName → Granted → List MechCred → ℕ → List ℕ → Option (List ℕ)
    → PlainSetup
setup_named name credential others stamp draws bindings = record {
  list = creds.Kerberos name credential ∷ others;
  bindings = bindings;
  stamp = stamp;
  draws = draws;
  negotiates = true;
}

-- the octets that it begins with
abbrev pub first_token : PlainSetup → Granted → List ℕ
first_token own credential =
    init_octets (initiating.first_sent own
    (request_token credential own.stamp own.draws own.bindings))

-- its end behind them
abbrev pub opening_end : PlainSetup → Granted → EndSays
opening_end own credential = inits.Opens (record {
  own = own;
  mech = mechs.Kerberos (waiting credential own.stamp own.draws own.bindings);
})

-- the acceptor's answer, which names Kerberos as the list does, without the list's MIC
abbrev pub plain_reply : KerberosName → Judged → List ℕ → NegResp
plain_reply name j drawn = accepting.reply_with First (oid_named (names.Kerberos name)) false true
    (Some (answer_token j drawn)) None

-- the same with the MIC of the list, after which the initiator's is due
abbrev pub signed_reply : KerberosName → Judged → List ℕ → List (List ℕ) → NegResp
signed_reply name j drawn list =
    accepting.reply_with First (oid_named (names.Kerberos name)) true true
    (Some (answer_token j drawn)) (Some (list_mic (pair_outcome j drawn) Acceptor list))

-- an honest pair by Kerberos begins, and both complete with one outcome
pub record NamedPairLaws : Type 0 where
  -- the initiator begins
  pub begins : (setup : AcceptSetup) (now : ℕ) (drawn : List ℕ) (name : KerberosName)
      (credential : Granted) (others : List MechCred) (stamp : ℕ) (draws : List ℕ)
      (bindings : Option (List ℕ))
      → Pair setup now drawn credential stamp draws bindings
      → initiating.sent_of (initiating.init_start
      (setup_named name credential others stamp draws bindings)) ≡ Ok (
        opening_end (setup_named name credential others stamp draws bindings) credential,
        first_token (setup_named name credential others stamp draws bindings) credential,
      )
  -- where Kerberos is the acceptor's first choice too, its one answer completes both, with one
  -- outcome
  pub at_once : (setup : AcceptSetup) (now : ℕ) (drawn : List ℕ) (name : KerberosName)
      (credential : Granted) (others : List MechCred) (stamp : ℕ) (draws : List ℕ)
      (bindings : Option (List ℕ))
      → (pair : Pair setup now drawn credential stamp draws bindings)
      → is_first setup.offer Kerberos ≡ true
      → neg_init.fits (initiating.first_sent
      (setup_named name credential others stamp draws bindings)
      (request_token credential stamp draws bindings)) ≡ true
      → neg_resp.fits
      (plain_reply name (honest_judged credential stamp bindings pair.fit.part) drawn) ≡ true
      → DoneAtOnce setup now drawn
      (opening_end (setup_named name credential others stamp draws bindings) credential)
      (first_token (setup_named name credential others stamp draws bindings) credential)
      (pair_outcome (honest_judged credential stamp bindings pair.fit.part) drawn)
  -- where it isn't, both complete with one outcome after the MICs of the list
  pub after_mics : (setup : AcceptSetup) (now : ℕ) (drawn : List ℕ) (name : KerberosName)
      (credential : Granted) (others : List MechCred) (stamp : ℕ) (draws : List ℕ)
      (bindings : Option (List ℕ))
      → (pair : Pair setup now drawn credential stamp draws bindings)
      → is_first setup.offer Kerberos ≡ false
      → neg_init.fits (initiating.first_sent
      (setup_named name credential others stamp draws bindings)
      (request_token credential stamp draws bindings)) ≡ true
      → neg_resp.fits
      (signed_reply name (honest_judged credential stamp bindings pair.fit.part) drawn
      (initiating.own_list (setup_named name credential others stamp draws bindings))) ≡ true
      → neg_resp.fits (initiating.mic_sent
      (list_mic (pair_outcome (honest_judged credential stamp bindings pair.fit.part) drawn)
      Initiator
      (initiating.own_list (setup_named name credential others stamp draws bindings)))) ≡ true
      → DoneAfterMics setup now drawn
      (opening_end (setup_named name credential others stamp draws bindings) credential)
      (first_token (setup_named name credential others stamp draws bindings) credential)
      (pair_outcome (honest_judged credential stamp bindings pair.fit.part) drawn)
