-- An honest pair: an initiator with a Kerberos credential, and an acceptor that offers Kerberos,
-- alone or beside others, in any order.
use Rattle.std.specs.Prelude.{◌≡◌, ℕ, true, false, List, [], ◌∷◌, length, Option, Some, None, Ok}
use Rattle.gss_base.specs.declared.mech.MechKind.TheVariants.{Kerberos}
use Rattle.gss_base.specs.declared.mech.KerberosName.TheVariants.{Standard}
use Rattle.gss_base.specs.Mech.{oid_of}
use Rattle.krb_tokens.specs.declared.end.Side.TheVariants.{Initiator, Acceptor}
use Rattle.krb_files.specs.Granted.{Granted}
use Rattle.spnego_msgs.specs.declared.neg_resp.NegResp.{NegResp}
use Rattle.spnego_msgs.specs.NegInit.{neg_init}
use Rattle.spnego_msgs.specs.NegResp.{neg_resp}
use Rattle.ap_exchange.specs.declared.judged.Judged.{Judged}
use Rattle.ap_exchange.specs.Request.{waiting, request_token, RequestFits}
use Rattle.ap_exchange.specs.Answer.{answer_done, answer_token, AnswerFits}
use Rattle.ap_exchange.specs.Laws.{Fits, honest_judged}
use Rattle.spnego_core.specs.declared.outcome.Outcome.{Outcome}
use Rattle.spnego_core.specs.declared.setup.AcceptSetup.{AcceptSetup}
use Rattle.spnego_core.specs.declared.setup.MechCred.TheVariants as creds
use Rattle.spnego_core.specs.MechStates as mechs
use Rattle.spnego_core.specs.declared.accept_end.AcceptEnd.{AcceptEnd}
use Rattle.spnego_core.specs.declared.accept_end.AcceptEnd.TheVariants as accepts
use Rattle.spnego_core.specs.declared.accept_end.AcceptPause.{AcceptPause}
use Rattle.spnego_core.specs.declared.accept_end.AcceptStep.TheVariants as accepted
use Rattle.spnego_core.specs.declared.accept_end.Turn.TheVariants.{First}
use Rattle.spnego_core.specs.Ends.{PlainSetup, EndSays}
use Rattle.spnego_core.specs.Ends as inits
use Rattle.spnego_core.specs.EndSteps as initiated
use Rattle.spnego_core.specs.Outcome.{outcome_of}
use Rattle.spnego_core.specs.ListMic.{list_mic}
use Rattle.spnego_core.specs.Choice.{is_among, is_first}
use Rattle.spnego_core.specs.Bare.{takes_bare}
use Rattle.spnego_core.specs.Tokens.{init_octets}
use Rattle.spnego_core.specs.Accepting as accepting
use Rattle.spnego_core.specs.Initiating as initiating

-- the setup of an initiator with this credential alone, under Kerberos's own name
abbrev pub setup_with : Granted → ℕ → List ℕ → Option (List ℕ) → PlainSetup
setup_with credential stamp draws bindings =
    record {
      list = creds.Kerberos Standard credential ∷ [];
      bindings = bindings;
      stamp = stamp;
      draws = draws;
      negotiates = true;
    }

-- the same of one that doesn't negotiate
abbrev pub bare_setup : Granted → ℕ → List ℕ → Option (List ℕ) → PlainSetup
bare_setup credential stamp draws bindings =
    record (setup_with credential stamp draws bindings) { negotiates = false }

-- the facts of the pair fit, the acceptor offers Kerberos, and all that both write has a spelling
pub record Pair (setup : AcceptSetup) (now : ℕ) (drawn : List ℕ) (credential : Granted) (stamp : ℕ)
    (draws : List ℕ) (bindings : Option (List ℕ)) : Type 0 where
  pub fit : Fits setup.keytab setup.own now setup.bindings credential stamp bindings
  pub offers : is_among setup.offer Kerberos ≡ true
  pub draws_long : length draws ≡ 66
  pub drawn_long : length drawn ≡ 66
  pub requests : RequestFits credential stamp draws bindings
  pub answers : AnswerFits (honest_judged credential stamp bindings fit.part) drawn

-- the octets that the initiator begins with
abbrev pub first_token : Granted → ℕ → List ℕ → Option (List ℕ) → List ℕ
first_token credential stamp draws bindings =
    init_octets (initiating.first_sent (setup_with credential stamp draws bindings)
    (request_token credential stamp draws bindings))

-- its end behind them
abbrev pub opening_end : Granted → ℕ → List ℕ → Option (List ℕ) → EndSays
opening_end credential stamp draws bindings = inits.Opens (record {
  own = setup_with credential stamp draws bindings;
  mech = mechs.Kerberos (waiting credential stamp draws bindings);
})

-- the end that began without negotiation, with its request alone
abbrev pub bare_end : Granted → ℕ → List ℕ → Option (List ℕ) → EndSays
bare_end credential stamp draws bindings = inits.Opens (record {
  own = bare_setup credential stamp draws bindings;
  mech = mechs.Kerberos (waiting credential stamp draws bindings);
})

-- the one outcome of both
abbrev pub pair_outcome : Judged → List ℕ → Outcome
pair_outcome j drawn = outcome_of Kerberos (answer_done j drawn)

-- the acceptor's answer, without the MIC of the list or with it
abbrev pub plain_reply : Judged → List ℕ → NegResp
plain_reply j drawn =
    accepting.reply_with First (oid_of Kerberos) false true (Some (answer_token j drawn)) None

-- the same with the MIC of the list, after which the initiator's is due
abbrev pub signed_reply : Judged → List ℕ → List (List ℕ) → NegResp
signed_reply j drawn list =
    accepting.reply_with First (oid_of Kerberos) true true (Some (answer_token j drawn))
    (Some (list_mic (pair_outcome j drawn) Acceptor list))

-- both are done with the acceptor's one answer
pub record DoneAtOnce (setup : AcceptSetup) (now : ℕ) (drawn : List ℕ) (end : EndSays)
    (token : List ℕ) (outcome : Outcome) : Type 0 where
  pub pause : AcceptPause
  pub asks : accepting.step_of (accepting.accept_step setup accepts.New token now drawn)
      ≡ Ok (accepted.WantsAuth pause)
  pub lasts : ℕ
  pub reply : List ℕ
  pub goes_on : accepting.step_after pause ≡ accepted.Done outcome lasts reply
  pub takes : initiating.step_of (initiating.init_step end reply) ≡ Ok (initiated.Done outcome)

-- both are done after each has verified the other's MIC of the list; the acceptor's last token is
-- empty
pub record DoneAfterMics (setup : AcceptSetup) (now : ℕ) (drawn : List ℕ) (end : EndSays)
    (token : List ℕ) (outcome : Outcome) : Type 0 where
  pub pause : AcceptPause
  pub asks : accepting.step_of (accepting.accept_step setup accepts.New token now drawn)
      ≡ Ok (accepted.WantsAuth pause)
  pub owing : AcceptEnd
  pub reply : List ℕ
  pub goes_on : accepting.step_after pause ≡ accepted.More owing reply
  pub signed : EndSays
  pub mic : List ℕ
  pub takes : initiating.step_of (initiating.init_step end reply) ≡ Ok (initiated.More signed mic)
  pub lasts : ℕ
  pub closes : (later : ℕ) (others : List ℕ) → accepting.step_of
      (accepting.accept_step setup owing mic later others) ≡ Ok (accepted.Done outcome lasts [])
  pub ends : initiating.step_of (initiating.init_step signed []) ≡ Ok (initiated.Done outcome)

-- an honest pair by Kerberos begins, and both complete with one outcome
pub record PairLaws : Type 0 where
  -- the initiator begins
  pub begins : (setup : AcceptSetup) (now : ℕ) (drawn : List ℕ) (credential : Granted) (stamp : ℕ)
      (draws : List ℕ) (bindings : Option (List ℕ))
      → Pair setup now drawn credential stamp draws bindings
      → initiating.sent_of (initiating.init_start (setup_with credential stamp draws bindings)) ≡ Ok
      (opening_end credential stamp draws bindings, first_token credential stamp draws bindings)
  -- where Kerberos is the acceptor's first choice too, its one answer completes both, with one
  -- outcome
  pub at_once : (setup : AcceptSetup) (now : ℕ) (drawn : List ℕ) (credential : Granted) (stamp : ℕ)
      (draws : List ℕ) (bindings : Option (List ℕ))
      → (pair : Pair setup now drawn credential stamp draws bindings)
      → is_first setup.offer Kerberos ≡ true
      → neg_init.fits (initiating.first_sent (setup_with credential stamp draws bindings)
      (request_token credential stamp draws bindings)) ≡ true
      → neg_resp.fits (plain_reply (honest_judged credential stamp bindings pair.fit.part) drawn)
      ≡ true
      → DoneAtOnce setup now drawn
      (opening_end credential stamp draws bindings) (first_token credential stamp draws bindings)
      (pair_outcome (honest_judged credential stamp bindings pair.fit.part) drawn)
  -- where it isn't, both complete with one outcome after the MICs of the list
  pub after_mics : (setup : AcceptSetup) (now : ℕ) (drawn : List ℕ) (credential : Granted)
      (stamp : ℕ) (draws : List ℕ) (bindings : Option (List ℕ))
      → (pair : Pair setup now drawn credential stamp draws bindings)
      → is_first setup.offer Kerberos ≡ false
      → neg_init.fits (initiating.first_sent (setup_with credential stamp draws bindings)
      (request_token credential stamp draws bindings)) ≡ true
      → neg_resp.fits (signed_reply (honest_judged credential stamp bindings pair.fit.part) drawn
      (initiating.own_list (setup_with credential stamp draws bindings))) ≡ true
      → neg_resp.fits (initiating.mic_sent
      (list_mic (pair_outcome (honest_judged credential stamp bindings pair.fit.part) drawn)
      Initiator (initiating.own_list (setup_with credential stamp draws bindings)))) ≡ true
      → DoneAfterMics setup now drawn
      (opening_end credential stamp draws bindings) (first_token credential stamp draws bindings)
      (pair_outcome (honest_judged credential stamp bindings pair.fit.part) drawn)
  -- an initiator that doesn't negotiate begins with its request alone
  pub bare_begins : (setup : AcceptSetup) (now : ℕ) (drawn : List ℕ) (credential : Granted)
      (stamp : ℕ) (draws : List ℕ) (bindings : Option (List ℕ))
      → Pair setup now drawn credential stamp draws bindings
      → initiating.sent_of (initiating.init_start (bare_setup credential stamp draws bindings)) ≡ Ok
      (bare_end credential stamp draws bindings, request_token credential stamp draws bindings)
  -- where the acceptor takes that, its one answer completes both, with one outcome
  pub bare : (setup : AcceptSetup) (now : ℕ) (drawn : List ℕ) (credential : Granted) (stamp : ℕ)
      (draws : List ℕ) (bindings : Option (List ℕ))
      → (pair : Pair setup now drawn credential stamp draws bindings)
      → takes_bare setup ≡ true
      → DoneAtOnce setup now drawn
      (bare_end credential stamp draws bindings) (request_token credential stamp draws bindings)
      (pair_outcome (honest_judged credential stamp bindings pair.fit.part) drawn)
