-- What holds of an initiator over its steps.
use Rattle.std.specs.Prelude.{◌≡◌, ◌⊎◌, ℕ, Bool, true, false, List, map, Option, Some, None}
use Rattle.std.specs.Prelude.{Ok, Err}
use Rattle.gss_base.specs.declared.mech.MechKind.{MechKind}
use Rattle.gss_base.specs.declared.mech.MechKind.TheVariants as kinds
use Rattle.krb_tokens.specs.declared.done.MechDone.{MechDone}
use Rattle.krb_tokens.specs.declared.end.Side.TheVariants.{Initiator}
use Rattle.krb_files.specs.Granted.{Granted}
use Rattle.ap_exchange.specs.declared.request.ApInit.{ApInit}
use Rattle.ap_exchange.specs.Draws.{drawn_nonce}
use Rattle.ap_exchange.specs.Request.{waiting, request_making}
use Rattle.ap_exchange.specs.Reply.{reply_taken, reply_found}
use Rattle.scram_mech.specs.MechMaking.{MechMaking, AmongMakings, typed}
use Rattle.scram_mech.specs.Initiator.{InitModel, WaitModel, InitStarted, InitAnswered}
use Rattle.scram_mech.specs.Initiator.{InitFinished, init_started, init_answered, init_finished}
use Rattle.spnego_core.specs.declared.outcome.Outcome.{Outcome}
use Rattle.spnego_core.specs.declared.refusal.NegRefusal.{NegRefusal}
use Rattle.spnego_core.specs.declared.setup.MechCred.TheVariants as creds
use Rattle.spnego_core.specs.MechStates.{InitMech}
use Rattle.spnego_core.specs.MechStates as mechs
use Rattle.spnego_core.specs.Ends.{PlainSetup, OpeningSays, TalkingSays, SignedSays, EndSays}
use Rattle.spnego_core.specs.Ends as ends
use Rattle.spnego_core.specs.EndSteps.{StepSays}
use Rattle.spnego_core.specs.EndSteps as steps
use Rattle.spnego_core.specs.Outcome.{outcome_of}
use Rattle.spnego_core.specs.ListMic.{is_list_mic, mic_making, mic_found}
use Rattle.spnego_core.specs.Choice.{is_first}
use Rattle.spnego_core.specs.InitMech.{kinds_of, cred_for, ticket_for}
use Rattle.spnego_core.specs.Reasons.{neg_wants_memory}
use Rattle.spnego_core.specs.Initiating.{Started, Initiated, own_list, init_start, init_step}

-- ---- what an end knows

-- what it was begun with
abbrev pub own_of : EndSays → PlainSetup
own_of (ends.Opens opening) = opening.own
own_of (ends.Talks talking) = talking.talk.own
own_of (ends.Signed signed) = signed.talk.own

-- the mechanism that the acceptor chose
abbrev pub chosen_of : EndSays → Option MechKind
chosen_of (ends.Opens opening) = None
chosen_of (ends.Talks talking) = Some talking.talk.chosen
chosen_of (ends.Signed signed) = Some signed.talk.chosen

-- the acceptor's MIC over the own list was verified
abbrev pub listed_of : EndSays → Bool
listed_of (ends.Opens opening) = false
listed_of (ends.Talks talking) = false
listed_of (ends.Signed signed) = signed.listed

-- the outcome of a mechanism that is done
abbrev pub finished_of : EndSays → Option Outcome
finished_of (ends.Opens opening) = None
finished_of (ends.Talks talking) = None
finished_of (ends.Signed signed) = Some signed.outcome

-- the outcome of a mechanism that is done after the step
abbrev pub finished_in : StepSays → Option Outcome
finished_in (steps.More end token) = finished_of end
finished_in (steps.Done outcome) = Some outcome

-- the SCRAM end that answers the acceptor's first text next
abbrev pub answering : InitMech → Option InitModel
answering (mechs.Kerberos end) = None
answering (mechs.Scram end) = Some end
answering (mechs.Proof end) = None

-- the same of an initiator's end
abbrev pub answers_next : EndSays → Option InitModel
answers_next (ends.Opens opening) = answering opening.mech
answers_next (ends.Talks talking) = answering talking.mech
answers_next (ends.Signed signed) = None

-- the same of the end after a step, where it goes on
abbrev pub answers_in : StepSays → Option InitModel
answers_in (steps.More end token) = answers_next end
answers_in (steps.Done outcome) = None

-- ---- good ends: those that runs reach

-- a Kerberos end that waits for the reply to a request by the own credential
pub record IsWaiting (own : PlainSetup) (end : ApInit) : Type 0 where
  pub credential : Granted
  pub is_own : ticket_for own.list ≡ Some credential
  pub waits : end ≡ waiting credential own.stamp own.draws own.bindings

-- a SCRAM end whose first text has the own user and nonce
pub record IsFirstText (own : PlainSetup) (end : InitModel) : Type 0 where
  pub user : List ℕ
  pub password : List ℕ
  pub is_own : cred_for own.list kinds.Scram ≡ Some (creds.Scram user password)
  pub started : InitStarted
  pub starts : init_started user password (drawn_nonce own.draws) own.bindings ≡ Ok started
  pub waits : end ≡ started.end

-- a SCRAM end that answered a first text of the acceptor with its proof
pub record IsProved (own : PlainSetup) (end : WaitModel) : Type 0 where
  pub before : InitModel
  pub first : IsFirstText own before
  pub text : List ℕ
  pub answered : InitAnswered
  pub answers : init_answered before text ≡ Ok answered
  pub waits : end ≡ answered.end

-- a mechanism's state comes of the own setup: of its credential, stamp, draws and bindings
abbrev pub IsMechOf : PlainSetup → InitMech → Type 0
IsMechOf own (mechs.Kerberos end) = IsWaiting own end
IsMechOf own (mechs.Scram end) = IsFirstText own end
IsMechOf own (mechs.Proof end) = IsProved own end

-- the mechanism that runs, by its state at the initiator
abbrev pub kind_of_mech : InitMech → MechKind
kind_of_mech (mechs.Kerberos end) = kinds.Kerberos
kind_of_mech (mechs.Scram end) = kinds.Scram
kind_of_mech (mechs.Proof end) = kinds.Scram

-- the chosen mechanism is the own first choice, or the acceptor's MIC over the own list was
-- verified: the list arrived as it was sent
abbrev pub Covered : PlainSetup → MechKind → Bool → Type 0
Covered own chosen listed = (is_first (kinds_of own.list) chosen ≡ true) ⊎ (listed ≡ true)

-- an end that sent its first token: the own first mechanism runs
pub record GoodOpening (opening : OpeningSays) : Type 0 where
  pub mech : IsMechOf opening.own opening.mech
  pub first : is_first (kinds_of opening.own.list) (kind_of_mech opening.mech) ≡ true

-- an end whose mechanism isn't done: the chosen one runs
pub record GoodTalking (talking : TalkingSays) : Type 0 where
  pub mech : IsMechOf talking.talk.own talking.mech
  pub chosen : kind_of_mech talking.mech ≡ talking.talk.chosen

-- an end that sent its MIC: its outcome is by the chosen mechanism, and the choice is covered
pub record GoodSigned (signed : SignedSays) : Type 0 where
  pub covered : Covered signed.talk.own signed.talk.chosen signed.listed
  pub chosen : signed.outcome.mech ≡ signed.talk.chosen

-- an initiator's end is good, by what was done last
abbrev pub GoodInit : EndSays → Type 0
GoodInit (ends.Opens opening) = GoodOpening opening
GoodInit (ends.Talks talking) = GoodTalking talking
GoodInit (ends.Signed signed) = GoodSigned signed

-- ---- what a step shows

-- the end that goes on keeps what it was begun with, is good, and knows what is chosen and whether
-- the acceptor's MIC was verified
pub record GoesOn (own : PlainSetup) (chosen : Option MechKind) (listed : Bool)
    (end : EndSays) : Type 0 where
  pub own_is : own_of end ≡ own
  pub good : GoodInit end
  pub chosen_is : chosen_of end ≡ chosen
  pub listed_is : listed_of end ≡ listed

-- what an end that goes on after the step keeps and knows
abbrev pub After : PlainSetup → Option MechKind → Bool → StepSays → Type 0
After own chosen listed (steps.More end token) = GoesOn own chosen listed end
After own chosen listed (steps.Done outcome) = Unit {0}

-- a request by the own credential of a mechanism that is chosen now
pub record IsRequest (own : PlainSetup) (chosen : Option MechKind) (making : MechMaking) : Type 0
  where
    pub credential : Granted
    pub is_own : ticket_for own.list ≡ Some credential
    pub made : making ≡ typed (request_making credential own.stamp own.draws own.bindings)
    pub now : chosen ≡ Some kinds.Kerberos

-- the proof of the own password, which is handed out once: by the end that answers the acceptor's
-- first text
pub record IsProof (own : PlainSetup) (next : Option InitModel) (chosen : Option MechKind)
    (making : MechMaking) : Type 0 where
  pub end : InitModel
  pub was : next ≡ Some end
  pub first : IsFirstText own end
  pub text : List ℕ
  pub answered : InitAnswered
  pub answers : init_answered end text ≡ Ok answered
  pub made : AmongMakings answered.makes making
  pub now : chosen ≡ Some kinds.Scram

-- the MIC over the own list, under the key of the finished mechanism
pub record IsOwnMic (own : PlainSetup) (step : StepSays) (making : MechMaking) : Type 0 where
  pub outcome : Outcome
  pub finished : finished_in step ≡ Some outcome
  pub made : making ≡ mic_making outcome Initiator (own_list own)

-- a reply was taken, and what was found verified in it is among what the step found
pub record ByReply (own : PlainSetup) (found : List MechMaking) (outcome : Outcome) : Type 0 where
  pub end : ApInit
  pub token : List ℕ
  pub made : MechDone
  pub waits : IsWaiting own end
  pub takes : reply_taken end token ≡ Ok made
  pub outcome_is : outcome ≡ outcome_of kinds.Kerberos made
  pub verified : (making : MechMaking) → AmongMakings (map typed (reply_found end token)) making
      → AmongMakings found making

-- the signature was taken, and what was found verified in it is among what the step found
pub record BySignature (own : PlainSetup) (found : List MechMaking) (outcome : Outcome) : Type 0
  where
    pub end : WaitModel
    pub proved : IsProved own end
    pub token : List ℕ
    pub finished : InitFinished
    pub takes : init_finished end token ≡ Ok finished
    pub outcome_is : outcome ≡ outcome_of kinds.Scram finished.done
    pub verified : (making : MechMaking) → AmongMakings finished.found making
        → AmongMakings found making

-- the acceptor's MIC over the own list was verified in this step
pub record SeesMic (own : PlainSetup) (found : List MechMaking) (outcome : Outcome) : Type 0 where
  pub mic : List ℕ
  pub right : is_list_mic outcome Initiator (own_list own) mic ≡ true
  pub verified : AmongMakings found (mic_found outcome Initiator (own_list own) mic)

-- a mechanism is finished with this outcome in the step, by Kerberos's reply or SCRAM's signature
abbrev pub IsFinish : PlainSetup → List MechMaking → Outcome → Type 0
IsFinish own found outcome = ByReply own found outcome ⊎ BySignature own found outcome

-- what holds of a step that was taken from a good end
pub record InitLaw (old : EndSays) (taken : Initiated) : Type 0 where
  pub after : After (own_of old) taken.chosen taken.listed taken.step
  -- what is handed out: a request by the own credential, the proof of the own password, or the MIC
  -- over the own list
  pub made : (making : MechMaking) → AmongMakings taken.makes making
      → IsRequest (own_of old) taken.chosen making ⊎ (IsProof (own_of old) (answers_next old)
      taken.chosen making ⊎ IsOwnMic (own_of old) taken.step making)
  -- a mechanism is finished by a reply that it takes; it was then, or is now
  pub finishes : (outcome : Outcome) → finished_in taken.step ≡ Some outcome
      → (finished_of old ≡ Some outcome) ⊎ IsFinish (own_of old) taken.found outcome
  -- once the acceptor chose, an end that doesn't answer a first text next never does: there is one
  -- proof
  pub once : (kind : MechKind) → chosen_of old ≡ Some kind → answers_next old ≡ None
      → answers_in taken.step ≡ None
  -- the acceptor's MIC is known as verified only where it was found so, then or now
  pub sees : (outcome : Outcome) → finished_in taken.step ≡ Some outcome → taken.listed ≡ true
      → (listed_of old ≡ true) ⊎ SeesMic (own_of old) taken.found outcome
  -- a finished mechanism is the chosen one, and a context on another than the own first choice
  -- stands only with the acceptor's MIC
  pub chosen : (outcome : Outcome) → finished_in taken.step ≡ Some outcome
      → taken.chosen ≡ Some outcome.mech
  pub covered : (outcome : Outcome) → taken.step ≡ steps.Done outcome
      → Covered (own_of old) outcome.mech taken.listed
  -- what is chosen or finished stays so
  pub turns : (kind : MechKind) → chosen_of old ≡ Some kind → taken.chosen ≡ Some kind
  pub stays : (outcome : Outcome) → finished_of old ≡ Some outcome
      → finished_in taken.step ≡ Some outcome

-- what holds of an end that sent its first token: it hands out no more than a request by the own
-- credential
pub record StartLaw (own : PlainSetup) (started : Started) : Type 0 where
  pub own_is : own_of started.end ≡ own
  pub good : GoodInit started.end
  pub unchosen : chosen_of started.end ≡ None
  pub made : (making : MechMaking) → AmongMakings started.makes making → (credential : Granted)
      × (ticket_for own.list ≡ Some credential)
      × (making ≡ typed (request_making credential own.stamp own.draws own.bindings))

-- the laws of each start, and of each step that the machine takes from a good end
pub record InitLaws : Type 0 where
  pub starts : (own : PlainSetup) (started : Started) → init_start own ≡ Ok started
      → StartLaw own started
  pub steps : (old : EndSays) (token : List ℕ) (taken : Initiated) → GoodInit old
      → init_step old token ≡ Ok taken → InitLaw old taken
  -- no start and no step is refused for want of memory, and no refusal holds it
  pub start_reasons : (own : PlainSetup) (refusal : NegRefusal) → init_start own ≡ Err refusal
      → neg_wants_memory refusal ≡ false
  pub step_reasons : (old : EndSays) (token : List ℕ) (refusal : NegRefusal)
      → init_step old token ≡ Err refusal → neg_wants_memory refusal ≡ false
