-- What holds of an acceptor over its steps.
use Rattle.std.specs.Prelude.{◌≡◌, ◌⊎◌, ℕ, true, false, List, [], map, slice_get, Option, Some}
use Rattle.std.specs.Prelude.{None, Ok, Err}
use Rattle.gss_base.specs.declared.mech.MechKind.{MechKind}
use Rattle.gss_base.specs.declared.mech.MechKind.TheVariants as kinds
use Rattle.krb_tokens.specs.declared.end.Side.TheVariants.{Acceptor}
use Rattle.ap_exchange.specs.declared.judged.Judged.{Judged}
use Rattle.ap_exchange.specs.Exchange.{judge_found}
use Rattle.ap_exchange.specs.Judging.{judged, judged_mark}
use Rattle.ap_exchange.specs.Answer.{answer_done, answer_making}
use Rattle.scram_mech.specs.declared.verifiers.Verifier.{Verifier}
use Rattle.scram_mech.specs.Base64.{encoded}
use Rattle.scram_mech.specs.FirstText.{First, first_of}
use Rattle.scram_mech.specs.MechMaking.{MechMaking, AmongMakings, typed}
use Rattle.scram_mech.specs.Acceptor.{AcceptModel, AcceptFinished, accept_finished}
use Rattle.spnego_core.specs.declared.outcome.Outcome.{Outcome}
use Rattle.spnego_core.specs.declared.refusal.NegRefusal.{NegRefusal}
use Rattle.spnego_core.specs.declared.setup.AcceptSetup.{AcceptSetup}
use Rattle.spnego_core.specs.declared.accept_mech.AcceptMech.{AcceptMech}
use Rattle.spnego_core.specs.declared.accept_mech.AcceptMech.TheVariants as mechs
use Rattle.spnego_core.specs.declared.accept_end.Chosen.{Chosen}
use Rattle.spnego_core.specs.declared.accept_end.Running.{Running}
use Rattle.spnego_core.specs.declared.accept_end.Owing.{Owing}
use Rattle.spnego_core.specs.declared.accept_end.AcceptEnd.{AcceptEnd}
use Rattle.spnego_core.specs.declared.accept_end.AcceptEnd.TheVariants as ends
use Rattle.spnego_core.specs.declared.accept_end.Answered.{Answered}
use Rattle.spnego_core.specs.declared.accept_end.Answered.TheVariants as afters
use Rattle.spnego_core.specs.declared.accept_end.AcceptPause.{AcceptPause}
use Rattle.spnego_core.specs.declared.accept_end.AcceptStep.{AcceptStep}
use Rattle.spnego_core.specs.declared.accept_end.AcceptStep.TheVariants as steps
use Rattle.spnego_core.specs.Outcome.{outcome_of}
use Rattle.spnego_core.specs.ListMic.{is_list_mic, mic_making, mic_found}
use Rattle.spnego_core.specs.Choice.{best, is_mic_due}
use Rattle.spnego_core.specs.AcceptMech.{ByRequest, ByProof}
use Rattle.spnego_core.specs.Reasons.{neg_wants_memory}
use Rattle.spnego_core.specs.Accepting.{Fixed, Accepted, gone_on, accept_step}

-- ---- what an end knows

-- the list that came
abbrev pub received_of : AcceptEnd → Option (List (List ℕ))
received_of ends.New = None
received_of (ends.Runs running) = Some running.chosen.received
received_of (ends.Owes owing) = Some owing.received

-- the outcome of a mechanism that is done
abbrev pub settled_of : AcceptEnd → Option Outcome
settled_of ends.New = None
settled_of (ends.Runs running) = None
settled_of (ends.Owes owing) = Some owing.outcome

-- the SCRAM end that waits for the proof
abbrev pub proof_due : AcceptMech → Option AcceptModel
proof_due mechs.Kerberos = None
proof_due mechs.Scram = None
proof_due (mechs.Proof end) = Some end

-- the same of an acceptor's end
abbrev pub waits_for_proof : AcceptEnd → Option AcceptModel
waits_for_proof ends.New = None
waits_for_proof (ends.Runs running) = proof_due running.mech
waits_for_proof (ends.Owes owing) = None

-- ---- good ends: those that runs reach

-- the mechanism that runs, by its state at the acceptor
abbrev pub kind_of_accept : AcceptMech → MechKind
kind_of_accept mechs.Kerberos = kinds.Kerberos
kind_of_accept mechs.Scram = kinds.Scram
kind_of_accept (mechs.Proof end) = kinds.Scram

-- a SCRAM end that waits for the proof: the line stands in the verifiers under the name in the
-- first text, whose nonce it has beside a drawn one
pub record IsOfLine (lines : List Verifier) (end : AcceptModel) : Type 0 where
  pub first : First
  pub read : first_of end.first ≡ Ok first
  pub place : ℕ
  pub there : slice_get lines place ≡ Some end.line
  pub named : end.line.name ≡ first.name
  pub client : end.client ≡ first.nonce
  pub draw : List ℕ
  pub own : end.own ≡ encoded draw

-- a mechanism's state is good: a SCRAM end that waits for the proof is of a line of the verifiers
abbrev pub GoodMech : AcceptSetup → AcceptMech → Type 0
GoodMech setup mechs.Kerberos = Unit {0}
GoodMech setup mechs.Scram = Unit {0}
GoodMech setup (mechs.Proof end) = IsOfLine setup.verifiers end

-- the mechanism is the best of the list that came, and the MIC is due by the rule
pub record GoodChosen (setup : AcceptSetup) (chosen : Chosen) : Type 0 where
  pub best_is : best setup.offer chosen.received ≡ Some chosen.kind
  pub due_is : chosen.due ≡ is_mic_due setup.offer chosen.received chosen.kind

-- an end whose mechanism isn't done: the choice is by the rule, and the chosen mechanism runs
pub record GoodRunning (setup : AcceptSetup) (running : Running) : Type 0 where
  pub choice : GoodChosen setup running.chosen
  pub mech_is : kind_of_accept running.mech ≡ running.chosen.kind
  pub mech : GoodMech setup running.mech

-- an end that waits for the initiator's MIC: its mechanism is the best of the list that came, and
-- the MIC is due by the rule
pub record GoodOwing (setup : AcceptSetup) (owing : Owing) : Type 0 where
  pub best_is : best setup.offer owing.received ≡ Some owing.outcome.mech
  pub due_is : is_mic_due setup.offer owing.received owing.outcome.mech ≡ true

-- an acceptor's end is good, by what is due next
abbrev pub GoodAccept : AcceptSetup → AcceptEnd → Type 0
GoodAccept setup ends.New = Unit {0}
GoodAccept setup (ends.Runs running) = GoodRunning setup running
GoodAccept setup (ends.Owes owing) = GoodOwing setup owing

-- ---- what a step shows

-- the end that goes on is good, and keeps the list that came
pub record GoesOn (setup : AcceptSetup) (old end : AcceptEnd) : Type 0 where
  pub good : GoodAccept setup end
  pub same : (list : List (List ℕ)) → received_of old ≡ Some list → received_of end ≡ Some list

-- the chosen mechanism is the first choice of both
pub record IsUndue (setup : AcceptSetup) (old : AcceptEnd) (outcome : Outcome) : Type 0 where
  pub received : List (List ℕ)
  pub best_is : best setup.offer received ≡ Some outcome.mech
  pub undue : is_mic_due setup.offer received outcome.mech ≡ false
  pub same : (list : List (List ℕ)) → received_of old ≡ Some list → received ≡ list

-- the initiator's MIC over the list that came was verified in this step
pub record TakesMic (old : AcceptEnd) (found : List MechMaking) (outcome : Outcome) : Type 0 where
  pub owing : Owing
  pub was : old ≡ ends.Owes owing
  pub outcome_is : outcome ≡ owing.outcome
  pub mic : List ℕ
  pub right : is_list_mic owing.outcome Acceptor owing.received mic ≡ true
  pub verified : AmongMakings found (mic_found owing.outcome Acceptor owing.received mic)

-- a context stands only where the MIC wasn't due or was verified
abbrev pub Stands : AcceptSetup → AcceptEnd → List MechMaking → Outcome → Type 0
Stands setup old found outcome = IsUndue setup old outcome ⊎ TakesMic old found outcome

-- what a step shows once nothing is to be asked: its end goes on, or its context stands
abbrev pub AfterAnswered : AcceptSetup → AcceptEnd → List MechMaking → Answered → Type 0
AfterAnswered setup old found (afters.More end token) = GoesOn setup old end
AfterAnswered setup old found (afters.Done outcome lasts token) = Stands setup old found outcome

-- the same of any step; where it pauses, of what follows the pause
abbrev pub AfterStep : AcceptSetup → AcceptEnd → List MechMaking → AcceptStep → Type 0
AfterStep setup old found (steps.More end token) = GoesOn setup old end
AfterStep setup old found (steps.Done outcome lasts token) = Stands setup old found outcome
AfterStep setup old found (steps.WantsAuth pause) = AfterAnswered setup old found pause.after

-- the outcome that a step leads to, at once or once the list's MIC has come
abbrev pub outcome_after : Answered → Option Outcome
outcome_after (afters.More end token) = settled_of end
outcome_after (afters.Done outcome lasts token) = Some outcome

-- Kerberos: by a request that was judged in this step, and whose mark is asked for before anything
-- is answered
pub record ByKerberos (setup : AcceptSetup) (now : ℕ) (draws : List ℕ) (taken : Accepted)
    (fixed : Fixed) : Type 0 where
  pub request : Judged
  pub token : List ℕ
  pub judges : judged setup.keytab setup.own now setup.bindings token ≡ Ok request
  pub basis_is : fixed.basis ≡ ByRequest request
  pub outcome_is : fixed.outcome ≡ outcome_of kinds.Kerberos (answer_done request draws)
  pub lasts_is : fixed.lasts ≡ request.ends
  pub verified : (making : MechMaking)
      → AmongMakings (map typed (judge_found setup.keytab setup.own token)) making
      → AmongMakings taken.found making
  pub pause : AcceptPause
  pub asks : taken.step ≡ steps.WantsAuth pause
  pub mark_is : pause.mark ≡ judged_mark request
  pub after_is : outcome_after pause.after ≡ Some fixed.outcome
  -- what is handed out: the answer, or the MIC over the list that came
  pub made : (making : MechMaking) → AmongMakings taken.makes making
      → (making ≡ typed (answer_making request draws))
      ⊎ (making ≡ mic_making fixed.outcome Acceptor fixed.received)

-- SCRAM: by a proof that was verified in this step, under the stored key of the user whose line the
-- end has; no mark is asked for
pub record ByScram (setup : AcceptSetup) (old : AcceptEnd) (now : ℕ) (taken : Accepted)
    (fixed : Fixed) : Type 0 where
  pub end : AcceptModel
  pub was : waits_for_proof old ≡ Some end
  pub line : IsOfLine setup.verifiers end
  pub token : List ℕ
  pub finished : AcceptFinished
  pub finishes : accept_finished end token setup.bindings now ≡ Ok finished
  pub basis_is : fixed.basis ≡ ByProof end token
  pub outcome_is : fixed.outcome ≡ outcome_of kinds.Scram finished.done
  pub lasts_is : fixed.lasts ≡ finished.done.ends
  pub verified : (making : MechMaking) → AmongMakings finished.found making
      → AmongMakings taken.found making
  pub after : Answered
  pub goes_on : taken.step ≡ gone_on after
  pub after_is : outcome_after after ≡ Some fixed.outcome
  -- what is handed out: the signature, or the MIC over the list that came
  pub made : (making : MechMaking) → AmongMakings taken.makes making
      → AmongMakings finished.makes making
      ⊎ (making ≡ mic_making fixed.outcome Acceptor fixed.received)

-- a context is fixed once, by the chosen mechanism
pub record Fixes (setup : AcceptSetup) (old : AcceptEnd) (now : ℕ) (draws : List ℕ)
    (taken : Accepted) (fixed : Fixed) : Type 0 where
  pub before : settled_of old ≡ None
  pub same : (list : List (List ℕ)) → received_of old ≡ Some list → fixed.received ≡ list
  pub best_is : best setup.offer fixed.received ≡ Some fixed.outcome.mech
  pub by : ByKerberos setup now draws taken fixed ⊎ ByScram setup old now taken fixed

-- what holds of a step that was taken from a good end; one that fixes no context hands nothing out
pub record AcceptLaw (setup : AcceptSetup) (old : AcceptEnd) (now : ℕ) (draws : List ℕ)
    (taken : Accepted) : Type 0 where
  pub after : AfterStep setup old taken.found taken.step
  pub fixes : (fixed : Fixed) → taken.fixes ≡ Some fixed → Fixes setup old now draws taken fixed
  pub unfixed : taken.fixes ≡ None → taken.makes ≡ []

-- the law of each step that the machine takes from a good end
pub record AcceptLaws : Type 0 where
  pub steps : (setup : AcceptSetup) (old : AcceptEnd) (token : List ℕ) (now : ℕ) (draws : List ℕ)
      (taken : Accepted)
      → GoodAccept setup old → accept_step setup old token now draws ≡ Ok taken
      → AcceptLaw setup old now draws taken
  -- no step is refused for want of memory, and no refusal holds it
  pub reasons : (setup : AcceptSetup) (old : AcceptEnd) (token : List ℕ) (now : ℕ) (draws : List ℕ)
      (refusal : NegRefusal)
      → accept_step setup old token now draws ≡ Err refusal → neg_wants_memory refusal ≡ false
