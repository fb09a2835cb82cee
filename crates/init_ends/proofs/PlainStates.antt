-- What the objects of Kerberos and SCRAM say, by their states.
use Rattle.std.proofs.Common.{◌≡◌, ℕ, refl, ap, subst, List, [], ◌∷◌, Option, Some, None, Result, Ok, Err}
use Rattle.gss_base.specs.declared.mech.MechKind.{MechKind}
use Rattle.gss_base.specs.declared.mech.MechKind.TheVariants as kinds
use Rattle.ap_exchange.specs.declared.refusal.ApRefusal.{ApRefusal}
use Rattle.ap_exchange.specs.declared.request.ApInit.{ApInit}
use Rattle.ap_exchange.specs.Reply.{reply_taken}
use Rattle.krb_tokens.specs.declared.done.MechDone.{MechDone}
use Rattle.scram_mech.specs.declared.refusal.ScramRefusal.{ScramRefusal}
use Rattle.scram_mech.specs.MechMaking.{MechMaking}
use Rattle.scram_mech.specs.Initiator.{InitStarted, InitAnswered, InitFinished, init_answered, init_finished}
use Rattle.spnego_core.specs.declared.setup.MechCred.{MechCred}
use Rattle.spnego_core.specs.declared.setup.MechCred.TheVariants as creds
use Rattle.spnego_core.specs.MechStates.{InitMech}
use Rattle.spnego_core.specs.MechStates as mechs
use Rattle.spnego_core.specs.Ends.{PlainSetup}
use Rattle.spnego_core.specs.InitMech.{kind_of, MechBegun, init_begun, request_begun, text_begun}
use Rattle.mech_objects.specs.declared.ask.MechAsk.{MechAsk}
use Rattle.mech_objects.specs.Meaning.{takes, as_end}
use Rattle.mech_objects.specs.Standard.{begun, state_begun, answered, reply_answered, text_answered, final_answered, move_answered, move_by, state_answered, state_after, state_after_all, state_of}
use Rattle.mech_objects.specs.Laws.{kind_in}
use Rattle.init_ends.specs.Plain.{ask_of, waiting_of}

-- the own mechanism begins as its object does
pub begun-own : (own : PlainSetup) (cred : MechCred) → init_begun own cred ≡ begun cred (ask_of own)
unfolding init_begun begun
begun-own own (creds.Kerberos name credential) = refl
begun-own own (creds.Scram user password) = refl

-- the state of an object that began
pub began : (cred : MechCred) (ask : MechAsk) (made : MechBegun) → begun cred ask ≡ Ok made → state_of cred ask [] ≡ Some made.mech
unfolding state_of
began cred ask made e = ap state_begun e

-- what an object in this state says to a token
pub takes-by : (cred : MechCred) (ask : MechAsk) (sent taken : List (List ℕ)) (mech : InitMech) (token : List ℕ) → state_of cred ask taken ≡ Some mech → takes (waiting_of cred ask sent taken) token ≡ as_end (move_answered (answered mech token))
takes-by cred ask sent taken mech token e = ap (λ (x : Option InitMech). as_end (move_by x token)) e

-- ---- the kind of a state

-- the state, where there is one, is of this kind
abbrev pub IsOf : MechKind → Option InitMech → Type 0
IsOf kind None = Unit {0}
IsOf kind (Some mech) = kind_in mech ≡ kind

by-request : (makes : List MechMaking) (made : Result (ApInit × List ℕ) ApRefusal) → IsOf kinds.Kerberos (state_begun (request_begun makes made))
by-request makes (Ok sent) = refl
by-request makes (Err refusal) = tt

by-text : (made : Result InitStarted ScramRefusal) → IsOf kinds.Scram (state_begun (text_begun made))
by-text (Ok started) = refl
by-text (Err refusal) = tt

kind-begun : (cred : MechCred) (ask : MechAsk) → IsOf (kind_of cred) (state_begun (begun cred ask))
unfolding begun
kind-begun (creds.Kerberos name credential) ask = by-request _ _
kind-begun (creds.Scram user password) ask = by-text _

after-reply : (made : Result MechDone ApRefusal) → IsOf kinds.Kerberos (state_answered (reply_answered made))
after-reply (Ok done) = tt
after-reply (Err refusal) = tt

after-text : (made : Result InitAnswered ScramRefusal) → IsOf kinds.Scram (state_answered (text_answered made))
after-text (Ok made) = refl
after-text (Err refusal) = tt

after-final : (made : Result InitFinished ScramRefusal) → IsOf kinds.Scram (state_answered (final_answered made))
after-final (Ok made) = tt
after-final (Err refusal) = tt

kind-answered : (mech : InitMech) (token : List ℕ) → IsOf (kind_in mech) (state_answered (answered mech token))
unfolding answered
kind-answered (mechs.Kerberos end) token = after-reply (reply_taken end token)
kind-answered (mechs.Scram end) token = after-text (init_answered end token)
kind-answered (mechs.Proof end) token = after-final (init_finished end token)

kind-after : (kind : MechKind) (state : Option InitMech) (token : List ℕ) → IsOf kind state → IsOf kind (state_after state token)
kind-after kind None token h = tt
kind-after kind (Some mech) token h = subst (λ (k : MechKind). IsOf k (state_answered (answered mech token))) h (kind-answered mech token)

kind-after-all : (kind : MechKind) (state : Option InitMech) (taken : List (List ℕ)) → IsOf kind state → IsOf kind (state_after_all state taken)
kind-after-all kind state [] h = h
kind-after-all kind state (token ∷ rest) h = kind-after-all kind (state_after state token) rest (kind-after kind state token h)

-- the state of an object is of its credential's mechanism
pub kind-of-state : (cred : MechCred) (ask : MechAsk) (taken : List (List ℕ)) (mech : InitMech) → state_of cred ask taken ≡ Some mech → kind_in mech ≡ kind_of cred
unfolding state_of
kind-of-state cred ask taken mech e =
    subst (λ (x : Option InitMech). IsOf (kind_of cred) x) e (kind-after-all (kind_of cred) (state_begun (begun cred ask)) taken (kind-begun cred ask))
