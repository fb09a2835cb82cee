-- No step of an exchange is refused for want of memory.
use Rattle.std.proofs.Common.{◌≡◌, ℕ, Bool, true, false, cond, List, Option, Some, None, Result, Ok, Err, refl, subst}
use Rattle.der_core.specs.declared.refusal.DerRefusal.{DerRefusal}
use Rattle.der_core.specs.Format.{all_of}
use Rattle.der_core.specs.Frame.{framed}
use Rattle.scram_mech.specs.declared.refusal.ScramRefusal.{ScramRefusal}
use Rattle.scram_mech.specs.declared.refusal.ScramRefusal.TheVariants.{Nonce, Rounds, Bindings, Proof, Signature}
use Rattle.scram_mech.specs.declared.verifiers.Verifier.{Verifier}
use Rattle.scram_mech.specs.Reasons.{scram_wants_memory, StepReasons}
use Rattle.scram_mech.specs.declared.refusal.Stuck.{Stuck}
use Rattle.scram_mech.specs.Reading.{◌>>=◌, in_text}
use Rattle.scram_mech.specs.Formats.{Segment, pieces_of, values_of}
use Rattle.scram_mech.specs.Secrets.{signature_of}
use Rattle.scram_mech.specs.FirstText.{first_of}
use Rattle.scram_mech.specs.SecondText.{second_of}
use Rattle.scram_mech.specs.ThirdText.{third_of}
use Rattle.scram_mech.specs.FinalText.{final_of}
use Rattle.scram_mech.specs.Judging.{demand, judged, same, is_extended, are_rounds, held, unframed}
use Rattle.scram_bindings.specs.Carried.{is_bound}
use Rattle.scram_mech.specs.Verifiers.{line_for}
use Rattle.scram_mech.specs.Acceptor.{AcceptModel, nonce_of, line_or_none, accept_started, auth_with, is_proof, accept_finished}
use Rattle.scram_mech.specs.Initiator.{InitModel, WaitModel, init_started, init_answered, init_finished}

-- a step has a reason where it refuses
unfoldable pub Reasoned : {A : Type 0} → Result A ScramRefusal → Type 0
Reasoned (Ok v) = Unit {0}
Reasoned (Err e) = scram_wants_memory e ≡ false

reason-of : {A : Type 0} (r : Result A ScramRefusal) (e : ScramRefusal) → Reasoned r → r ≡ Err e → scram_wants_memory e ≡ false
unfolding Reasoned
reason-of (Ok v) e h is = absurd cc
reason-of (Err d) e h is = let same : d ≡ e = cc in subst (λ (x : ScramRefusal). scram_wants_memory x ≡ false) same h

reason-ok : {A : Type 0} (v : A) → Reasoned (Ok v)
unfolding Reasoned
reason-ok v = tt

reason-err : (A : Type 0) (e : ScramRefusal) → scram_wants_memory e ≡ false → Reasoned {A = A} (Err e)
unfolding Reasoned
reason-err A e h = h

reason-bind : {A B : Type 0} (r : Result A ScramRefusal) (next : A → Result B ScramRefusal) → Reasoned r → ((x : A) → Reasoned (next x)) → Reasoned (r >>= next)
unfolding Reasoned
reason-bind (Ok x) next h k = k x
reason-bind (Err e) next h k = h

reason-if : {A : Type 0} (b : Bool) (r s : Result A ScramRefusal) → Reasoned r → Reasoned s → Reasoned (cond b r s)
reason-if true r s h k = h
reason-if false r s h k = k

reason-demand : (holds : Bool) (e : ScramRefusal) → scram_wants_memory e ≡ false → Reasoned (demand holds e)
reason-demand true e h = reason-ok tt
reason-demand false e h = reason-err _ e h

reason-text : {A : Type 0} (text : List ℕ) (r : Result A Stuck) → Reasoned (in_text text r)
reason-text text (Ok x) = reason-ok x
reason-text text (Err stuck) = reason-err _ _ refl

reason-values : (format : List Segment) (text : List ℕ) → Reasoned (values_of format text)
unfolding values_of
reason-values format text = reason-if _ _ _ (reason-err _ _ refl) (reason-text text (pieces_of format text))

reason-held : (token : List ℕ) (r : Result (List ℕ × List ℕ) DerRefusal) → Reasoned (held token r)
reason-held token (Err e) = reason-err _ _ refl
reason-held token (Ok frame) = reason-if _ _ _ (reason-ok frame.1) (reason-err _ _ refl)

reason-unframed : (token : List ℕ) → Reasoned (unframed token)
unfolding unframed
reason-unframed token = reason-held token (framed.read (all_of token))

reason-line : (line : Option Verifier) → Reasoned (line_or_none line)
reason-line None = reason-err _ _ refl
reason-line (Some line) = reason-ok line

reason-first : (text : List ℕ) → Reasoned (first_of text)
unfolding first_of
reason-first text = reason-bind (values_of _ text) _ (reason-values _ text) (λ values. reason-ok _)

reason-second : (text : List ℕ) → Reasoned (second_of text)
unfolding second_of
reason-second text = reason-bind (values_of _ text) _ (reason-values _ text) (λ values. reason-ok _)

reason-third : (text : List ℕ) → Reasoned (third_of text)
unfolding third_of
reason-third text = reason-bind (values_of _ text) _ (reason-values _ text) (λ values. reason-ok _)

reason-final : (text : List ℕ) → Reasoned (final_of text)
unfolding final_of
reason-final text =
    reason-if _ _ _ (reason-bind (values_of _ text) _ (reason-values _ text) (λ values. reason-err _ _ refl)) (reason-bind (values_of _ text) _ (reason-values _ text) (λ values. reason-ok _))

reason-judged : (class : _) (most : ℕ) (octets : List ℕ) → Reasoned (judged class most octets)
unfolding judged
reason-judged class most octets =
    reason-bind (in_text octets (pieces_of _ octets)) _ (reason-text octets (pieces_of _ octets)) (λ values. reason-ok tt)

-- ---- the five steps

reason-init_started : (user password draw : List ℕ) (bindings : Option (List ℕ)) → Reasoned (init_started user password draw bindings)
unfolding init_started
reason-init_started user password draw bindings =
    reason-bind (judged _ _ user) _ (reason-judged _ _ user) (λ named. reason-bind (judged _ _ password) _ (reason-judged _ _ password) (λ opened. reason-ok _))

reason-accept_started : (lines : List Verifier) (token draw : List ℕ) → Reasoned (accept_started lines token draw)
unfolding accept_started
reason-accept_started lines token draw =
    reason-bind (unframed token) _ (reason-unframed token) (λ text. reason-bind (first_of text) _ (reason-first text) (λ first. reason-bind (line_or_none (line_for lines first.name)) _ (reason-line (line_for lines first.name)) (λ line. reason-ok _)))

reason-init_answered : (init : InitModel) (text : List ℕ) → Reasoned (init_answered init text)
unfolding init_answered
reason-init_answered init text =
    reason-bind (second_of text) _ (reason-second text) (λ second. reason-bind (demand (is_extended init.nonce second.nonce) Nonce) _ (reason-demand (is_extended init.nonce second.nonce) Nonce refl) (λ fresh. reason-bind (demand (are_rounds second.rounds) Rounds) _ (reason-demand (are_rounds second.rounds) Rounds refl) (λ ranged. reason-ok _)))

reason-accept_finished : (accept : AcceptModel) (text : List ℕ) (bindings : Option (List ℕ)) (now : ℕ) → Reasoned (accept_finished accept text bindings now)
unfolding accept_finished
reason-accept_finished accept text bindings now =
    reason-bind (third_of text) _ (reason-third text) (λ third. reason-bind (demand (same third.nonce (nonce_of accept)) Nonce) _ (reason-demand (same third.nonce (nonce_of accept)) Nonce refl) (λ fresh. reason-bind (demand (is_bound bindings third.binding) Bindings) _ (reason-demand (is_bound bindings third.binding) Bindings refl) (λ bound. reason-bind (demand (is_proof accept.line.stored (auth_with accept third.bare) third.proof) Proof) _ (reason-demand (is_proof accept.line.stored (auth_with accept third.bare) third.proof) Proof refl) (λ proved. reason-ok _))))

reason-init_finished : (wait : WaitModel) (text : List ℕ) → Reasoned (init_finished wait text)
unfolding init_finished
reason-init_finished wait text =
    reason-bind (final_of text) _ (reason-final text) (λ signature. reason-bind (demand (same (signature_of wait.server wait.auth) signature) Signature) _ (reason-demand (same (signature_of wait.server wait.auth) signature) Signature refl) (λ verified. reason-ok _))

-- ---- the law

pub step-reasons : StepReasons
step-reasons = record {
  started = λ user password draw bindings refusal. reason-of (init_started user password draw bindings) refusal (reason-init_started user password draw bindings);
  taken = λ lines token draw refusal. reason-of (accept_started lines token draw) refusal (reason-accept_started lines token draw);
  answered = λ init text refusal. reason-of (init_answered init text) refusal (reason-init_answered init text);
  accepted = λ accept text bindings now refusal. reason-of (accept_finished accept text bindings now) refusal (reason-accept_finished accept text bindings now);
  finished = λ wait text refusal. reason-of (init_finished wait text) refusal (reason-init_finished wait text);
}
