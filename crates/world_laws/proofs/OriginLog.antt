-- What a book's answer adds to its log: a token adds no call, and no end by a call.
use Rattle.std.proofs.Common.{◌≡◌, ◌⊎◌, inl, inr, ℕ, Bool, true, false, refl, sym, subst, List, ◌∷◌, length, max, Option, Some, None, Ok}
use Rattle.std.specs.Prelude.{◌==◌, if◌then◌else◌}
use Rattle.std.proofs.lemmas.Option.{same_Some}
use Rattle.accept_core.specs.Stepping.{IsNext}
use Rattle.accept_core.specs.declared.answer.AdmitRefusal.{AdmitRefusal}
use Rattle.accept_book.specs.declared.book_answer.Negotiated.{Negotiated}
use Rattle.accept_core.specs.declared.entry.Entry.{Entry}
use Rattle.accept_core.specs.History.{entry_at}
use Rattle.accept_core.specs.Answers.{after, or_refused}
use Rattle.accept_book.specs.Booking.{BookOf, raised}
use Rattle.accept_book.specs.BookAnswers.{BookStepped}
use Rattle.history_laws.proofs.Answering.{memory-cases}
use Rattle.accept_book.proofs.LogWalk.{IsSaid, Walk, refusal-walk, negotiated-walk}

-- each call of the new log stood in the old one
abbrev pub Silent : List Entry → List Entry → Type 0
Silent old new = (place : ℕ) (entry : Entry) → entry_at place new ≡ Some entry → IsSaid entry → entry_at place old ≡ Some entry

pub silent-same : (old new : List Entry) → new ≡ old → Silent old new
silent-same old new e = λ place entry at said. subst (λ (h : List Entry). entry_at place h ≡ Some entry) e at

-- what stands at a place is the entry that is new, or stood there
pub entry-cases : (first : Entry) (h : List Entry) (place : ℕ) (entry : Entry) → entry_at place (first ∷ h) ≡ Some entry → (first ≡ entry) ⊎ (entry_at place h ≡ Some entry)
entry-cases first h place entry e = by (place == length h) e
  where
    by : (b : Bool) → (if b then Some first else entry_at place h) ≡ Some entry → (first ≡ entry) ⊎ (entry_at place h ≡ Some entry)
    by true f = inl (same_Some first entry f)
    by false f = inr f

silent-one : (first : Entry) (old new : List Entry) → (IsSaid first → ⊥) → Silent old new → Silent old (first ∷ new)
silent-one first old new un more = λ place entry at said. elim (entry-cases first new place entry at) [
  | inl same ↦ absurd (un (subst IsSaid (sym same) said))
  | inr later ↦ more place entry later said
]

silent-none : (h : List Entry) → Silent h h
silent-none h = silent-same h h refl

-- ---- what a token makes of it

silent-walk : Walk Silent
silent-walk = record { none = silent-none; one = silent-one }

pub silent-stepped : (old new : BookOf) (id past : Option ℕ) (token : List ℕ) (now : ℕ) (draws : List ℕ) (answer : Negotiated) → IsNext old.core.table (max old.core.cache.greatest now) past
    → BookStepped old new id token now draws answer → Silent old.core.history new.core.history
silent-stepped old new id past token now draws answer is_past b = elim (memory-cases answer.answer) [
  | inl short ↦ subst (Silent old.core.history) (sym (b.comes.memory short).history) (refusal-walk silent-walk id old.core.history)
  | inr enough ↦ subst (Silent old.core.history) (sym (b.comes.outcome past (λ first. is_past) enough).history) (negotiated-walk silent-walk old.setup (raised old.core now) id past token now draws)
]

-- ---- an admission, and an end

-- a call that was taken is the newest entry
pub taken-is : {X : Type 0} (refusal : Option AdmitRefusal) (x y : X) (entry : Entry) (h new : List Entry) → Ok y ≡ or_refused refusal x → new ≡ after refusal entry h → new ≡ entry ∷ h
taken-is None x y entry h new e f = f
taken-is (Some refusal) x y entry h new e f = absurd cc
