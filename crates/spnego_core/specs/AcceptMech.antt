-- What a mechanism makes of a token at the acceptor.
use Rattle.std.specs.Prelude.{ℕ, List, [], map, Option, Some, None, Result, Ok, Err}
use Rattle.gss_base.specs.declared.mech.MechKind.{MechKind}
use Rattle.gss_base.specs.declared.mech.MechKind.TheVariants as kinds
use Rattle.ap_exchange.specs.declared.refusal.ApRefusal.{ApRefusal}
use Rattle.ap_exchange.specs.declared.judged.Judged.{Judged}
use Rattle.ap_exchange.specs.Exchange.{judge_found}
use Rattle.ap_exchange.specs.Judging.{judged, judged_mark}
use Rattle.ap_exchange.specs.Draws.{drawn_nonce}
use Rattle.ap_exchange.specs.Answer.{answer_done, answer_token, answer_makes}
use Rattle.scram_mech.specs.declared.refusal.ScramRefusal.{ScramRefusal}
use Rattle.scram_mech.specs.MechMaking.{MechMaking, typed}
use Rattle.scram_mech.specs.Acceptor.{AcceptModel, AcceptStarted, AcceptFinished, accept_started}
use Rattle.scram_mech.specs.Acceptor.{accept_finished}
use Rattle.spnego_core.specs.declared.outcome.Outcome.{Outcome}
use Rattle.spnego_core.specs.declared.refusal.NegRefusal.{NegRefusal}
use Rattle.spnego_core.specs.declared.refusal.NegRefusal.TheVariants.{Mech}
use Rattle.spnego_core.specs.declared.refusal.MechRefusal.{MechRefusal}
use Rattle.spnego_core.specs.declared.refusal.MechRefusal.TheVariants.{Ap, Scram}
use Rattle.spnego_core.specs.declared.setup.AcceptSetup.{AcceptSetup}
use Rattle.spnego_core.specs.declared.accept_mech.AcceptMech.{AcceptMech}
use Rattle.spnego_core.specs.declared.accept_mech.AcceptMech.TheVariants as mechs
use Rattle.spnego_core.specs.declared.accept_mech.AcceptAnswer.{AcceptAnswer}
use Rattle.spnego_core.specs.declared.accept_mech.AcceptAnswer.TheVariants.{More, Done, Pauses}
use Rattle.spnego_core.specs.Outcome.{outcome_of}

-- what an outcome was built on: of Kerberos, the request as it was judged; of SCRAM, the end that
-- waited for the proof, and the text with it
pub data Basis : Type 0 where
  ByRequest : Judged → Basis
  ByProof : AcceptModel → List ℕ → Basis

-- what a finished mechanism fixes: the outcome, when the context ends, and what it was built on
pub record Built : Type 0 where
  pub outcome : Outcome
  pub lasts : ℕ
  pub basis : Basis

-- a token that was taken: the answer; what is handed out with it, and what was found verified in
-- the token; what it fixes
pub record MechTaken : Type 0 where
  pub answer : AcceptAnswer
  pub makes : List MechMaking
  pub found : List MechMaking
  pub built : Option Built

-- a mechanism before its first token
abbrev pub accept_begun : MechKind → AcceptMech
accept_begun kinds.Kerberos = mechs.Kerberos
accept_begun kinds.Scram = mechs.Scram

-- the answer to a request: whether it is a repeat is to be judged first
abbrev pub request_answered : List ℕ → List MechMaking → Judged → MechTaken
request_answered draws found request = record {
  answer = Pauses (judged_mark request) (outcome_of kinds.Kerberos (answer_done request draws))
      request.ends (answer_token request draws);
  makes = map typed (answer_makes request draws);
  found = found;
  built = Some (record {
    outcome = outcome_of kinds.Kerberos (answer_done request draws);
    lasts =
        request.ends;
    basis = ByRequest request;
  });
}

-- what Kerberos makes of the token: the answer to its request, or the request's refusal
abbrev pub request_taken : List ℕ → List MechMaking → Result Judged ApRefusal
    → Result MechTaken MechRefusal
request_taken draws found (Ok request) = Ok (request_answered draws found request)
request_taken draws found (Err refusal) = Err (Ap refusal)

-- the answer to SCRAM's first text
abbrev pub text_taken : Result AcceptStarted ScramRefusal → Result MechTaken MechRefusal
text_taken (Ok started) = Ok (record
    { answer = More (mechs.Proof started.end) started.token; makes = []; found = []; built = None })
text_taken (Err refusal) = Err (Scram refusal)

-- the answer to the text with the proof
abbrev pub proof_answered : AcceptModel → List ℕ → AcceptFinished → MechTaken
proof_answered end token finished = record {
  answer = Done (outcome_of kinds.Scram finished.done) finished.done.ends finished.token;
  makes = finished.makes;
  found = finished.found;
  built = Some (record {
    outcome = outcome_of kinds.Scram finished.done;
    lasts =
        finished.done.ends;
    basis = ByProof end token;
  });
}

-- what SCRAM makes of its last token: the answer to the proof, or its refusal
abbrev pub proof_taken : AcceptModel → List ℕ → Result AcceptFinished ScramRefusal
    → Result MechTaken MechRefusal
proof_taken end token (Ok finished) = Ok (proof_answered end token finished)
proof_taken end token (Err refusal) = Err (Scram refusal)

-- what a mechanism makes of a token: setup, mechanism, token, moment, draws
unfoldable pub accept_taken : AcceptSetup → AcceptMech → List ℕ → ℕ → List ℕ
    → Result MechTaken MechRefusal
accept_taken setup mechs.Kerberos token now draws =
    request_taken draws (map typed (judge_found setup.keytab setup.own token))
    (judged setup.keytab setup.own now setup.bindings token)
accept_taken setup mechs.Scram token now draws =
    text_taken (accept_started setup.verifiers token (drawn_nonce draws))
accept_taken setup (mechs.Proof end) token now draws =
    proof_taken end token (accept_finished end token setup.bindings now)

-- the answer alone; a mechanism's refusal is the end's
abbrev pub answered : Result MechTaken MechRefusal → Result AcceptAnswer NegRefusal
answered (Ok taken) = Ok taken.answer
answered (Err refusal) = Err (Mech refusal)
