-- The chain that the gate below answered.
use Rattle.std.proofs.Common.{◌≡◌, ℕ, ◌==◌, Bool, true, false, List, [], ◌∷◌, ◌++◌, flat_map, Option, None, Some, Result, Ok, Err, ap, sym, ◌∙◌, refl, inl, inr, subst, append_assoc, append-nil}
use Rattle.again_calls.specs.declared.place.Act.{Act}
use Rattle.again_calls.specs.Kept.{act_of}
use Rattle.accept_core.specs.declared.answer.AdmitRefusal.{AdmitRefusal}
use Rattle.accept_book.specs.declared.book_answer.Lease.{Lease}
use Rattle.accept_core.specs.declared.entry.Receipt.{Receipt}
use Rattle.accept_book.specs.declared.book_answer.Admitted.{Admitted}
use Rattle.rpcsec_bodies.specs.declared.service.Service.{Service}
use Rattle.rpc_program.specs.Programs.{NONE}
use Rattle.sha1.specs.Sha1.{sha1}
use Rattle.accept_book.specs.RecordShown.{Asked, AskedStep, AskedLook, AskedAdmit, AskedEnd}
use Rattle.gss_server.specs.Asking.{Asking}
use Rattle.again_gate.specs.Again.{AgainOf, with_xid, AgainAnswers, AdmitsSame, AdmitsBy, Admits, is_told, told_with}
use Rattle.gss_server.specs.Receipts.{of_call}
use Rattle.gss_server.specs.Programs.{passed}
use Rattle.rpc_program.specs.declared.outcome.Outcome.{Outcome}
use Rattle.again_laws.specs.Sole.{receipts_in}
use Rattle.again_laws.specs.Below.{IsBelow, AreBelow, asked_in, HasBelow, BelowLaw}

-- one question: what was asked below
record One {S : Type 0} (Answers : S → Asked Admitted → S → Type 0) (old : S) (one : Asked Admitted) (new : S) : Type 0 where
  below : List (Asked Admitted)
  chain : Asking Answers old below new
  is : IsBelow one below
  receipts : receipts_in one ++ [] ≡ flat_map receipts_in below

same-receipt : (outcome : Outcome) (inner : Result Receipt AdmitRefusal) → of_call (Some (told_with outcome inner)) ≡ of_call (Some (passed inner))
same-receipt outcome (Ok receipt) = refl
same-receipt outcome (Err refusal) = refl

one-same : {S : Type 0} (Answers : S → Asked Admitted → S → Type 0) (same : Bool) (old : AgainOf S) (act : Act) (lease : Lease) (seq : ℕ) (service : Service) (procedure : ℕ) (args : List ℕ) (answer : Result Admitted AdmitRefusal) (new : AgainOf S)
    → AdmitsSame Answers same act old lease seq service args answer new → One Answers old.gate (AskedAdmit lease seq service procedure args answer) new.gate
one-same Answers true old act lease seq service procedure args answer new r =
    let e : of_call (Some answer) ≡ of_call (Some (passed r.inner)) = ap (λ (x : Result Admitted AdmitRefusal). of_call (Some x)) r.is ∙ same-receipt r.outcome r.inner in record {
      below = AskedAdmit lease seq service NONE args (passed r.inner) ∷ [];
      chain = (new.gate, r.passes.answers, refl);
      is = inr (inl (passed r.inner, refl, e));
      receipts = ap (λ (l : List Receipt). l ++ []) e;
    }
one-same {S} Answers false old act lease seq service procedure args answer new r = record {
  below = [];
  chain = ap (λ (a : AgainOf S). a.gate) r.1;
  is = inr (inr (refl, r.0));
  receipts = ap (λ (x : Result Admitted AdmitRefusal). of_call (Some x) ++ []) r.0;
}

one-by : {S : Type 0} (Answers : S → Asked Admitted → S → Type 0) (found : Option Act) (old : AgainOf S) (lease : Lease) (seq : ℕ) (service : Service) (procedure : ℕ) (args : List ℕ) (answer : Result Admitted AdmitRefusal) (new : AgainOf S)
    → AdmitsBy Answers found old lease seq service procedure args answer new → One Answers old.gate (AskedAdmit lease seq service procedure args answer) new.gate
one-by Answers None old lease seq service procedure args answer new p = record { below = AskedAdmit lease seq service procedure args answer ∷ []; chain = (new.gate, p.answers, refl); is = inl refl; receipts = refl }
one-by Answers (Some act) old lease seq service procedure args answer new r = one-same Answers (is_told act procedure (sha1 args)) old act lease seq service procedure args answer new r

one-if : {S : Type 0} (Answers : S → Asked Admitted → S → Type 0) (none : Bool) (old : AgainOf S) (lease : Lease) (seq : ℕ) (service : Service) (procedure : ℕ) (args : List ℕ) (answer : Result Admitted AdmitRefusal) (new : AgainOf S)
    → Admits Answers none old lease seq service procedure args answer new → One Answers old.gate (AskedAdmit lease seq service procedure args answer) new.gate
one-if Answers true old lease seq service procedure args answer new p = record { below = AskedAdmit lease seq service procedure args answer ∷ []; chain = (new.gate, p.answers, refl); is = inl refl; receipts = refl }
one-if Answers false old lease seq service procedure args answer new by = one-by Answers (act_of lease.id old.xid old.places) old lease seq service procedure args answer new by

one-below : {S : Type 0} (Answers : S → Asked Admitted → S → Type 0) (old : AgainOf S) (one : Asked Admitted) (new : AgainOf S) → AgainAnswers Answers old one new → One Answers old.gate one new.gate
one-below Answers old (AskedStep id token now draws answer) new p = record { below = AskedStep id token now draws answer ∷ []; chain = (new.gate, p.answers, refl); is = refl; receipts = refl }
one-below Answers old (AskedLook id now answer) new p = record { below = AskedLook id now answer ∷ []; chain = (new.gate, p.answers, refl); is = refl; receipts = refl }
one-below Answers old (AskedAdmit lease seq service procedure args answer) new by = one-if Answers (procedure == NONE) old lease seq service procedure args answer new by
one-below Answers old (AskedEnd lease seq answer) new p = record { below = AskedEnd lease seq answer ∷ []; chain = (new.gate, p.answers, refl); is = refl; receipts = refl }

-- ---- in a row

asking-join : {S : Type 0} (Answers : S → Asked Admitted → S → Type 0) (xs ys : List (Asked Admitted)) (a b c : S) → Asking Answers a xs b → Asking Answers b ys c → Asking Answers a (xs ++ ys) c
asking-join {S} Answers [] ys a b c h k = subst (λ (x : S). Asking Answers x ys c) h k
asking-join Answers (x ∷ xs) ys a b c h k = (h.0, h.1, asking-join Answers xs ys h.0 b c h.2 k)

flat-join : {A B : Type 0} (f : A → List B) (xs ys : List A) → flat_map f (xs ++ ys) ≡ flat_map f xs ++ flat_map f ys
flat-join f [] ys = refl
flat-join {A} {B} f (x ∷ xs) ys = ap (λ (l : List B). f x ++ l) (flat-join f xs ys) ∙ sym (append_assoc (f x) (flat_map f xs) (flat_map f ys))

below-join : (xs ys : List (Asked Admitted)) (here rest : List (Asked Admitted)) → AreBelow xs here → AreBelow ys rest → AreBelow (xs ++ ys) (here ++ rest)
below-join [] ys here rest h k = subst (λ (l : List (Asked Admitted)). AreBelow ys (l ++ rest)) (sym h) k
below-join (x ∷ xs) ys here rest h k =
    (h.0, h.1 ++ rest, ap (λ (l : List (Asked Admitted)). l ++ rest) h.2 ∙ append_assoc h.0 h.1 rest, h.3, below-join xs ys h.1 rest h.4 k)

all-below : {S : Type 0} (Answers : S → Asked Admitted → S → Type 0) (asked : List (Asked Admitted)) (old new : AgainOf S) → Asking (AgainAnswers Answers) old asked new → HasBelow Answers old new asked
all-below {S} Answers [] old new h = record { below = []; chain = ap (λ (a : AgainOf S). a.gate) h; each = refl; receipts = refl }
all-below Answers (one ∷ more) old new h =
    let o = one-below Answers old one h.0 h.1 in
    let r = all-below Answers more h.0 new h.2 in record {
      below = o.below ++ r.below;
      chain = asking-join Answers o.below r.below old.gate h.0.gate new.gate o.chain r.chain;
      each = (o.below, r.below, refl, o.is, r.each);
      receipts = ap (λ (l : List Receipt). l ++ flat_map receipts_in more) (sym (append-nil (receipts_in one)) ∙ o.receipts) ∙ (ap (λ (l : List Receipt). flat_map receipts_in o.below ++ l) r.receipts ∙ sym (flat-join receipts_in o.below r.below));
    }

pub turns-below : {S : Type 0} (Answers : S → Asked Admitted → S → Type 0) → BelowLaw Answers
turns-below {S} Answers [] old new h = record { below = []; chain = ap (λ (a : AgainOf S). a.gate) h; each = refl; receipts = refl }
turns-below Answers (turn ∷ turns) old new h =
    let o = all-below Answers turn.asked (with_xid turn.xid old) h.0 h.1 in
    let r = turns-below Answers turns h.0 new h.2 in record {
      below = o.below ++ r.below;
      chain = asking-join Answers o.below r.below old.gate h.0.gate new.gate o.chain r.chain;
      each = below-join turn.asked (asked_in turns) o.below r.below o.each r.each;
      receipts = flat-join receipts_in turn.asked (asked_in turns) ∙ (ap (λ (l : List Receipt). l ++ flat_map receipts_in (asked_in turns)) o.receipts ∙ (ap (λ (l : List Receipt). flat_map receipts_in o.below ++ l) r.receipts ∙ sym (flat-join receipts_in o.below r.below)));
    }
