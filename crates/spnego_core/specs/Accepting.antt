-- The acceptor's machine, RFC 4178 sections 3.2, 4.2.2 and 5. Each part gives the step, what is
-- handed out with its token, what was found verified, and what it fixes.
use Rattle.std.specs.Prelude.{ℕ, Bool, true, false, not, if◌then◌else◌, List, [], ◌∷◌}
use Rattle.std.specs.Prelude.{◌++◌, length, Option, Some, None, option_map, Result, Ok, Err}
use Rattle.gss_base.specs.declared.mech.MechKind.{MechKind}
use Rattle.gss_base.specs.declared.mech.MechKind.TheVariants.{Kerberos}
use Rattle.gss_base.specs.declared.mark.Mark.{Mark}
use Rattle.krb_tokens.specs.declared.end.Side.TheVariants.{Acceptor}
use Rattle.spnego_msgs.specs.declared.neg_state.NegState.{NegState}
use Rattle.spnego_msgs.specs.declared.neg_state.NegState.TheVariants.{Completed, Incomplete}
use Rattle.spnego_msgs.specs.declared.neg_state.NegState.TheVariants.{RequestMic}
use Rattle.spnego_msgs.specs.declared.neg_init.NegInit.{NegInit}
use Rattle.spnego_msgs.specs.declared.neg_resp.NegResp.{NegResp}
use Rattle.scram_mech.specs.MechMaking.{MechMaking}
use Rattle.spnego_core.specs.declared.outcome.Outcome.{Outcome}
use Rattle.spnego_core.specs.declared.refusal.NegRefusal.{NegRefusal}
use Rattle.spnego_core.specs.declared.refusal.NegRefusal.TheVariants.{Defective, Rejected}
use Rattle.spnego_core.specs.declared.refusal.NegRefusal.TheVariants.{NoCommonMech, MicMissing}
use Rattle.spnego_core.specs.declared.refusal.NegRefusal.TheVariants.{MicBad, Mech}
use Rattle.spnego_core.specs.declared.refusal.MechRefusal.{MechRefusal}
use Rattle.spnego_core.specs.declared.setup.AcceptSetup.{AcceptSetup}
use Rattle.spnego_core.specs.declared.accept_mech.AcceptMech.{AcceptMech}
use Rattle.spnego_core.specs.declared.accept_mech.AcceptMech.TheVariants as mechs
use Rattle.spnego_core.specs.declared.accept_mech.AcceptAnswer.{AcceptAnswer}
use Rattle.spnego_core.specs.declared.accept_mech.AcceptAnswer.TheVariants as answers
use Rattle.spnego_core.specs.declared.accept_end.Turn.{Turn}
use Rattle.spnego_core.specs.declared.accept_end.Turn.TheVariants.{First, Later, Bare}
use Rattle.spnego_core.specs.declared.accept_end.Chosen.{Chosen}
use Rattle.spnego_core.specs.declared.accept_end.Running.{Running}
use Rattle.spnego_core.specs.declared.accept_end.Owing.{Owing}
use Rattle.spnego_core.specs.declared.accept_end.AcceptEnd.{AcceptEnd}
use Rattle.spnego_core.specs.declared.accept_end.AcceptEnd.TheVariants as ends
use Rattle.spnego_core.specs.declared.accept_end.Answered.{Answered}
use Rattle.spnego_core.specs.declared.accept_end.Answered.TheVariants as afters
use Rattle.spnego_core.specs.declared.accept_end.AcceptPause.{AcceptPause}
use Rattle.spnego_core.specs.declared.accept_end.AcceptStep.{AcceptStep}
use Rattle.spnego_core.specs.declared.accept_end.AcceptStep.TheVariants as steps
use Rattle.spnego_core.specs.Steps.{◌>>=◌, due, or_refuse}
use Rattle.spnego_core.specs.Tokens.{init_read, resp_read, alone, resp_octets, last_octets}
use Rattle.spnego_core.specs.Tokens.{rejects}
use Rattle.spnego_core.specs.ListMic.{list_mic, is_list_mic, mic_making, mic_found}
use Rattle.spnego_core.specs.Choice.{is_first_named, best, listed_as, is_mic_due}
use Rattle.spnego_core.specs.Bare.{bare_oid}
use Rattle.spnego_core.specs.AcceptMech.{Basis, Built, MechTaken, accept_begun, accept_taken}

-- a context that was fixed: the list that came, the outcome, when it ends, and what it was built on
pub record Fixed : Type 0 where
  pub received : List (List ℕ)
  pub outcome : Outcome
  pub lasts : ℕ
  pub basis : Basis

-- a step that was taken. What is handed out goes with the step's token: where the step pauses, with
-- that of the step that goes on
pub record Accepted : Type 0 where
  pub step : AcceptStep
  pub makes : List MechMaking
  pub found : List MechMaking
  pub fixes : Option Fixed

-- what the code returns of it
abbrev pub step_of : Result Accepted NegRefusal → Result AcceptStep NegRefusal
step_of (Ok accepted) = Ok accepted.step
step_of (Err refusal) = Err refusal

-- ---- the answer

-- what the reply says of the negotiation: the first one, then each later one. Without negotiation
-- it says nothing of it
abbrev pub state_said : Turn → Bool → Bool → Option NegState
state_said First owes finished =
    if owes then Some RequestMic else if finished then Some Completed else Some Incomplete
state_said Later owes finished =
    if owes then Some Incomplete else if finished then Some Completed else Some Incomplete
state_said Bare owes finished = None

-- the first reply names the mechanism, by this identifier
abbrev pub mech_said : Turn → List ℕ → Option (List ℕ)
mech_said First oid = Some oid
mech_said Later oid = None
mech_said Bare oid = None

-- the reply: the turn, the mechanism's identifier, whether the MIC is due, whether the mechanism is
-- done, its token, the own MIC
abbrev pub reply_with : Turn → List ℕ → Bool → Bool → Option (List ℕ) → Option (List ℕ) → NegResp
reply_with turn oid owes finished token mic =
    record {
      state = state_said turn owes finished;
      mech = mech_said turn oid;
      token =
          token;
      mic = mic;
    }

-- the octets of a reply in its turn: without negotiation the mechanism's token stands alone
abbrev pub octets_of : Turn → NegResp → List ℕ
octets_of First resp = resp_octets resp
octets_of Later resp = resp_octets resp
octets_of Bare resp = alone resp.token

-- the octets of that reply
abbrev pub reply : Turn → List ℕ → Bool → Bool → Option (List ℕ) → Option (List ℕ) → List ℕ
reply turn oid owes finished token mic =
    octets_of turn (reply_with turn oid owes finished token mic)

-- the chosen mechanism is named as the initiator's list has it
abbrev pub oid_chosen : Chosen → List ℕ
oid_chosen chosen = listed_as chosen.received chosen.kind

-- ---- the mechanism

-- the mechanism is done and the MIC is due: the own one goes with its last token, and the
-- initiator's is owed
abbrev pub owes : Turn → Chosen → Outcome → ℕ → List ℕ → Answered
owes turn chosen outcome lasts token = afters.More
    (ends.Owes (record { received = chosen.received; outcome = outcome; lasts = lasts }))
    (reply turn (oid_chosen chosen) true true (Some token)
    (Some (list_mic outcome Acceptor chosen.received)))

-- the mechanism is done: where the MIC is due, the own one goes with its last token, and the
-- initiator's is owed
abbrev pub finished : Turn → Chosen → Outcome → ℕ → List ℕ → Answered
finished turn chosen outcome lasts token =
    if chosen.due then owes turn chosen outcome lasts token
    else afters.Done outcome lasts (reply turn (oid_chosen chosen) false true (Some token) None)

-- the step that follows once nothing is to be asked
abbrev pub gone_on : Answered → AcceptStep
gone_on (afters.More end token) = steps.More end token
gone_on (afters.Done outcome lasts token) = steps.Done outcome lasts token

-- the mechanism goes on: the same state but for it
abbrev pub going : Turn → Chosen → AcceptMech → Option (List ℕ) → AcceptStep
going turn chosen mech token = steps.More
    (ends.Runs (record { chosen = chosen; mech = mech }))
    (reply turn (oid_chosen chosen) chosen.due false token None)

-- the step by the mechanism's answer
abbrev pub told : Turn → Chosen → AcceptAnswer → AcceptStep
told turn chosen (answers.More mech token) = going turn chosen mech (Some token)
told turn chosen (answers.Done outcome lasts token) =
    gone_on (finished turn chosen outcome lasts token)
told turn chosen (answers.Pauses mark outcome lasts token) =
    steps.WantsAuth (record { mark = mark; after = finished turn chosen outcome lasts token })

-- the own MIC is handed out with a last token where it is due
abbrev pub mic_made : Chosen → Outcome → List MechMaking
mic_made chosen outcome =
    if chosen.due then mic_making outcome Acceptor chosen.received ∷ [] else []

-- what the end itself hands out with a mechanism's answer: its MIC, if the mechanism is done
abbrev pub told_makes : Chosen → AcceptAnswer → List MechMaking
told_makes chosen (answers.More mech token) = []
told_makes chosen (answers.Done outcome lasts token) = mic_made chosen outcome
told_makes chosen (answers.Pauses mark outcome lasts token) = mic_made chosen outcome

-- what a finished mechanism fixes of the context
abbrev pub fixed_with : List (List ℕ) → Built → Fixed
fixed_with received built = record {
  received = received;
  outcome = built.outcome;
  lasts =
      built.lasts;
  basis = built.basis;
}

-- the step by what the mechanism made of its token
abbrev pub ran_with : Turn → Chosen → MechTaken → Accepted
ran_with turn chosen taken = record {
  step = told turn chosen taken.answer;
  makes = taken.makes ++ told_makes chosen taken.answer;
  found = taken.found;
  fixes = option_map (fixed_with chosen.received) taken.built;
}

-- the mechanism's refusal is the end's
abbrev pub run : Turn → Chosen → Result MechTaken MechRefusal → Result Accepted NegRefusal
run turn chosen (Err refusal) = Err (Mech refusal)
run turn chosen (Ok taken) = Ok (ran_with turn chosen taken)

-- ---- the first token

-- the state in which a mechanism begins
abbrev pub begun : AcceptSetup → List (List ℕ) → MechKind → Running
begun setup list kind = record {
  chosen = record { received = list; kind = kind; due = is_mic_due setup.offer list kind };
  mech = accept_begun kind;
}

-- the mechanism's token in the first token is for the list's first: another mechanism passes it
-- over
abbrev pub token_for : Bool → Option (List ℕ) → Option (List ℕ)
token_for true token = token
token_for false token = None

-- the chosen mechanism takes its token, or waits for it
abbrev pub started : AcceptSetup → ℕ → List ℕ → Running → Option (List ℕ)
    → Result Accepted NegRefusal
started setup now draws running None =
    Ok (record
    { step = going First running.chosen running.mech None; makes = []; found = []; fixes = None })
started setup now draws running (Some token) =
    run First running.chosen (accept_taken setup running.mech token now draws)

-- what follows the choice
abbrev pub chose : AcceptSetup → ℕ → List ℕ → List (List ℕ) → Option (List ℕ) → MechKind
    → Result Accepted NegRefusal
chose setup now draws list token kind =
    started setup now draws (begun setup list kind) (token_for (is_first_named list kind) token)

-- the list's MIC of a first token is passed over, and so are its flags
unfoldable pub begins : AcceptSetup → ℕ → List ℕ → NegInit → Result Accepted NegRefusal
begins setup now draws init = do
  kind ← or_refuse NoCommonMech (best setup.offer init.list)
  chose setup now draws init.list init.token kind

-- what is made of a first token: one that negotiates; or Kerberos's own, whose list is the one
-- identifier in its frame
abbrev pub first_taken : AcceptSetup → ℕ → List ℕ → List ℕ → Option (List ℕ)
    → Result Accepted NegRefusal
first_taken setup now draws token None = init_read token >>= begins setup now draws
first_taken setup now draws token (Some oid) =
    run Bare (begun setup (oid ∷ []) Kerberos).chosen
    (accept_taken setup mechs.Kerberos token now draws)

-- ---- later tokens

-- while the mechanism isn't done: the token of so many octets must have one for it, and a MIC is
-- passed over
unfoldable pub proceeds : AcceptSetup → ℕ → List ℕ → ℕ → Running → NegResp
    → Result Accepted NegRefusal
proceeds setup now draws size running resp = do
  goes ← due Rejected (not (rejects resp.state))
  token ← or_refuse (Defective size) resp.token
  run Later running.chosen (accept_taken setup running.mech token now draws)

-- the initiator's MIC over the list that came, with this state: its context stands
abbrev pub settled : Owing → Option NegState → List ℕ → Accepted
settled owing state mic = record {
  step = steps.Done owing.outcome owing.lasts (last_octets state);
  makes = [];
  found = mic_found owing.outcome Acceptor owing.received mic ∷ [];
  fixes = None;
}

-- once the mechanism is done and the MIC is due
unfoldable pub closes : Owing → NegResp → Result Accepted NegRefusal
closes owing resp = do
  goes ← due Rejected (not (rejects resp.state))
  mic ← or_refuse MicMissing resp.mic
  right ← due MicBad (is_list_mic owing.outcome Acceptor owing.received mic)
  Ok (settled owing resp.state mic)

-- the same by the token, which is read first
abbrev pub closed : Owing → List ℕ → Result Accepted NegRefusal
closed owing token = resp_read token >>= closes owing

-- ---- the machine: setup, end, token, moment, draws
-- what an acceptor makes of a token: the first, one for the mechanism, or one with the MIC
abbrev pub accept_step : AcceptSetup → AcceptEnd → List ℕ → ℕ → List ℕ → Result Accepted NegRefusal
accept_step setup ends.New token now draws =
    first_taken setup now draws token (bare_oid setup token)
accept_step setup (ends.Runs running) token now draws =
    resp_read token >>= proceeds setup now draws (length token) running
accept_step setup (ends.Owes owing) token now draws = resp_read token >>= closes owing

-- ---- what a pause shows

-- the mark by which a repeat of the request is known
abbrev pub mark_asked : AcceptPause → Mark
mark_asked pause = pause.mark

-- the step that goes on
abbrev pub step_after : AcceptPause → AcceptStep
step_after pause = gone_on pause.after

-- nothing more is to be asked
abbrev pub IsSettled : AcceptStep → Type 0
IsSettled (steps.More end token) = Unit {0}
IsSettled (steps.Done outcome lasts token) = Unit {0}
IsSettled (steps.WantsAuth pause) = ⊥
