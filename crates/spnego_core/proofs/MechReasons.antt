-- No mechanism refuses for want of memory, and steps that hand a reason on.
use Rattle.std.proofs.Common.{◌≡◌, ℕ, Bool, true, false, cond, List, Option, Some, None, Result, Ok, Err, refl, subst}
use Rattle.der_core.specs.declared.refusal.DerRefusal.{DerRefusal}
use Rattle.ap_exchange.specs.declared.refusal.ApRefusal.{ApRefusal}
use Rattle.ap_exchange.specs.declared.judged.Judged.{Judged}
use Rattle.ap_exchange.specs.declared.request.ApInit.{ApInit}
use Rattle.ap_exchange.specs.Reasons.{ap_wants_memory}
use Rattle.ap_exchange.specs.Judging.{judged}
use Rattle.ap_exchange.specs.Reply.{reply_taken}
use Rattle.ap_exchange.specs.Request.{request_of}
use Rattle.ap_exchange.specs.Draws.{drawn_nonce}
use Rattle.ap_exchange.proofs.Reasons.{judged-reasons, taken-reasons, request-reasons}
use Rattle.krb_tokens.specs.declared.done.MechDone.{MechDone}
use Rattle.scram_mech.specs.declared.refusal.ScramRefusal.{ScramRefusal}
use Rattle.scram_mech.specs.Acceptor.{AcceptModel, AcceptStarted, AcceptFinished, accept_started, accept_finished}
use Rattle.scram_mech.specs.Initiator.{InitStarted, InitAnswered, InitFinished, init_started, init_answered, init_finished}
use Rattle.scram_mech.specs.MechMaking.{MechMaking}
use Rattle.scram_mech.specs.Reasons.{scram_wants_memory}
use Rattle.scram_mech.proofs.Reasons.{step-reasons}
use Rattle.spnego_core.specs.declared.refusal.MechRefusal.{MechRefusal}
use Rattle.spnego_core.specs.declared.refusal.NegRefusal.{NegRefusal}
use Rattle.spnego_core.specs.declared.setup.AcceptSetup.{AcceptSetup}
use Rattle.spnego_core.specs.declared.setup.MechCred.{MechCred}
use Rattle.spnego_core.specs.declared.setup.MechCred.TheVariants as creds
use Rattle.spnego_core.specs.declared.accept_mech.AcceptMech.{AcceptMech}
use Rattle.spnego_core.specs.declared.accept_mech.AcceptMech.TheVariants as accepts
use Rattle.spnego_core.specs.MechStates.{InitMech}
use Rattle.spnego_core.specs.MechStates as inits
use Rattle.spnego_core.specs.Ends.{PlainSetup}
use Rattle.spnego_core.specs.Reasons.{mech_wants_memory, neg_wants_memory}
use Rattle.spnego_core.specs.Steps.{◌>>=◌, due, or_refuse}
use Rattle.spnego_core.specs.Tokens.{said_in}
use Rattle.spnego_core.specs.AcceptMech.{request_taken, text_taken, proof_taken, accept_taken}
use Rattle.spnego_core.specs.InitMech.{request_begun, text_begun, init_begun, reply_answered, text_answered, final_answered, init_taken}

-- ---- mechanisms

-- a mechanism has a reason where it refuses
unfoldable pub MechReasoned : {A : Type 0} → Result A MechRefusal → Type 0
MechReasoned (Ok v) = Unit {0}
MechReasoned (Err e) = mech_wants_memory e ≡ false

request_taken-reasoned : (draws : List ℕ) (found : List MechMaking) (r : Result Judged ApRefusal) → ((e : ApRefusal) → r ≡ Err e → ap_wants_memory e ≡ false) → MechReasoned (request_taken draws found r)
unfolding MechReasoned
request_taken-reasoned draws found (Ok request) h = tt
request_taken-reasoned draws found (Err e) h = h e refl

text_taken-reasoned : (r : Result AcceptStarted ScramRefusal) → ((e : ScramRefusal) → r ≡ Err e → scram_wants_memory e ≡ false) → MechReasoned (text_taken r)
unfolding MechReasoned
text_taken-reasoned (Ok started) h = tt
text_taken-reasoned (Err e) h = h e refl

proof_taken-reasoned : (end : AcceptModel) (token : List ℕ) (r : Result AcceptFinished ScramRefusal) → ((e : ScramRefusal) → r ≡ Err e → scram_wants_memory e ≡ false) → MechReasoned (proof_taken end token r)
unfolding MechReasoned
proof_taken-reasoned end token (Ok finished) h = tt
proof_taken-reasoned end token (Err e) h = h e refl

pub accept_taken-reasoned : (setup : AcceptSetup) (mech : AcceptMech) (token : List ℕ) (now : ℕ) (draws : List ℕ) → MechReasoned (accept_taken setup mech token now draws)
unfolding accept_taken
accept_taken-reasoned setup accepts.Kerberos token now draws =
    request_taken-reasoned draws _ (judged setup.keytab setup.own now setup.bindings token) (judged-reasons setup.keytab setup.own now setup.bindings token)
accept_taken-reasoned setup accepts.Scram token now draws =
    text_taken-reasoned (accept_started setup.verifiers token (drawn_nonce draws)) (step-reasons.taken setup.verifiers token (drawn_nonce draws))
accept_taken-reasoned setup (accepts.Proof end) token now draws =
    proof_taken-reasoned end token (accept_finished end token setup.bindings now) (step-reasons.accepted end token setup.bindings now)

request_begun-reasoned : (makes : List MechMaking) (r : Result (ApInit × List ℕ) ApRefusal) → ((e : ApRefusal) → r ≡ Err e → ap_wants_memory e ≡ false) → MechReasoned (request_begun makes r)
unfolding MechReasoned
request_begun-reasoned makes (Ok sent) h = tt
request_begun-reasoned makes (Err e) h = h e refl

text_begun-reasoned : (r : Result InitStarted ScramRefusal) → ((e : ScramRefusal) → r ≡ Err e → scram_wants_memory e ≡ false) → MechReasoned (text_begun r)
unfolding MechReasoned
text_begun-reasoned (Ok started) h = tt
text_begun-reasoned (Err e) h = h e refl

pub init_begun-reasoned : (own : PlainSetup) (cred : MechCred) → MechReasoned (init_begun own cred)
unfolding init_begun
init_begun-reasoned own (creds.Kerberos name credential) =
    request_begun-reasoned _ (request_of credential own.stamp own.draws own.bindings) (request-reasons credential own.stamp own.draws own.bindings)
init_begun-reasoned own (creds.Scram user password) =
    text_begun-reasoned (init_started user password (drawn_nonce own.draws) own.bindings) (step-reasons.started user password (drawn_nonce own.draws) own.bindings)

reply-reasoned : (found : List MechMaking) (r : Result MechDone ApRefusal) → ((e : ApRefusal) → r ≡ Err e → ap_wants_memory e ≡ false) → MechReasoned (reply_answered found r)
unfolding MechReasoned
reply-reasoned found (Ok made) h = tt
reply-reasoned found (Err e) h = h e refl

text-reasoned : (r : Result InitAnswered ScramRefusal) → ((e : ScramRefusal) → r ≡ Err e → scram_wants_memory e ≡ false) → MechReasoned (text_answered r)
unfolding MechReasoned
text-reasoned (Ok answered) h = tt
text-reasoned (Err e) h = h e refl

final-reasoned : (r : Result InitFinished ScramRefusal) → ((e : ScramRefusal) → r ≡ Err e → scram_wants_memory e ≡ false) → MechReasoned (final_answered r)
unfolding MechReasoned
final-reasoned (Ok finished) h = tt
final-reasoned (Err e) h = h e refl

pub init_taken-reasoned : (mech : InitMech) (token : List ℕ) → MechReasoned (init_taken mech token)
unfolding init_taken
init_taken-reasoned (inits.Kerberos end) token = reply-reasoned _ (reply_taken end token) (taken-reasons end token)
init_taken-reasoned (inits.Scram end) token = text-reasoned (init_answered end token) (step-reasons.answered end token)
init_taken-reasoned (inits.Proof end) token = final-reasoned (init_finished end token) (step-reasons.finished end token)

-- ---- ends

-- an end has a reason where it refuses
unfoldable pub Reasoned : {A : Type 0} → Result A NegRefusal → Type 0
Reasoned (Ok v) = Unit {0}
Reasoned (Err e) = neg_wants_memory e ≡ false

pub reason-of : {A : Type 0} (r : Result A NegRefusal) (e : NegRefusal) → Reasoned r → r ≡ Err e → neg_wants_memory e ≡ false
unfolding Reasoned
reason-of (Ok v) e h is = absurd cc
reason-of (Err d) e h is = let same : d ≡ e = cc in subst (λ (x : NegRefusal). neg_wants_memory x ≡ false) same h

pub reason-ok : {A : Type 0} (v : A) → Reasoned (Ok v)
unfolding Reasoned
reason-ok v = tt

pub reason-err : (A : Type 0) (e : NegRefusal) → neg_wants_memory e ≡ false → Reasoned {A = A} (Err e)
unfolding Reasoned
reason-err A e h = h

pub reason-bind : {A B : Type 0} (r : Result A NegRefusal) (next : A → Result B NegRefusal) → Reasoned r → ((x : A) → Reasoned (next x)) → Reasoned (r >>= next)
unfolding Reasoned
reason-bind (Ok x) next h k = k x
reason-bind (Err e) next h k = h

pub reason-if : {A : Type 0} (b : Bool) (r s : Result A NegRefusal) → Reasoned r → Reasoned s → Reasoned (cond b r s)
reason-if true r s h k = h
reason-if false r s h k = k

pub reason-due : (e : NegRefusal) (holds : Bool) → neg_wants_memory e ≡ false → Reasoned (due e holds)
reason-due e true h = reason-ok tt
reason-due e false h = reason-err _ e h

pub reason-or : {A : Type 0} (e : NegRefusal) (o : Option A) → neg_wants_memory e ≡ false → Reasoned (or_refuse e o)
reason-or e (Some v) h = reason-ok v
reason-or e None h = reason-err _ e h

pub reason-said : {A : Type 0} (r : Result A DerRefusal) → Reasoned (said_in r)
reason-said (Ok v) = reason-ok v
reason-said (Err e) = reason-err _ _ refl
