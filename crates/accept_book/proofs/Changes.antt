-- What a token changes of the contexts of a book.
use Rattle.std.proofs.Common.{◌≡◌, ◌≢◌, ◌∙◌, ℕ, Bool, true, false, ◌==◌, if◌then◌else◌, Option, None, Some, refl, sym, ap, subst, inl, inr}
use Rattle.std.specs.Prelude.{Result, Ok, Err}
use Rattle.std.proofs.lemmas.Bool.{cases_eq, eq-eqb, ne_eqb}
use Rattle.gss_base.specs.declared.mark.Mark.{Mark}
use Rattle.spnego_core.specs.declared.accept_end.AcceptEnd.{AcceptEnd}
use Rattle.spnego_core.specs.declared.accept_end.AcceptStep.{AcceptStep}
use Rattle.spnego_core.specs.declared.outcome.Outcome.{Outcome}
use Rattle.spnego_core.specs.declared.refusal.NegRefusal.{NegRefusal}
use Rattle.spnego_core.specs.Accepting.{Accepted}
use Rattle.context_table.specs.declared.slot.Slot.{Slot}
use Rattle.context_table.specs.Places.{Places, slot_at, KeepsOthers}
use Rattle.accept_core.specs.declared.answer.MarkRefusal.{MarkRefusal}
use Rattle.accept_core.specs.History.{taken_of}
use Rattle.accept_core.specs.Entering.{mark_refused}
use Rattle.accept_core.specs.Stepping.{Context, context_of, kept_slot}
use Rattle.accept_book.specs.Booking.{Change, Same, Ends, Becomes, changed, Changed, without, Stands, by_mark, by_step, mark_of, settled_of}

pub changed_same : (table : Places AcceptEnd Outcome) → Changed table Same table
changed_same table = λ id. refl

pub changed_gone : (old new : Places AcceptEnd Outcome) (id : ℕ) → slot_at new id ≡ None → KeepsOthers old new id → Changed old (Ends id) new
changed_gone old new id gone others = λ other. elim (cases_eq id other) [
  | inl e ↦ rw (eq-eqb id other e) (ap context_of (ap (slot_at new) (sym e) ∙ gone))
  | inr ne ↦ rw (ne_eqb id other ne) (ap context_of (others.others other ne))
]

kept_if : (b : Bool) (slot : Option (Slot AcceptEnd Outcome)) → context_of (if b then None else slot) ≡ (if b then None else context_of slot)
kept_if true slot = refl
kept_if false slot = refl

kept_context : (gone : Option ℕ) (other : ℕ) (slot : Option (Slot AcceptEnd Outcome)) → context_of (kept_slot gone other slot) ≡ without gone other (context_of slot)
kept_context None other slot = refl
kept_context (Some gone) other slot = kept_if (gone == other) slot

pub changed_entered : (old new : Places AcceptEnd Outcome) (gone : Option ℕ) (own : ℕ) (after : Context AcceptEnd Outcome)
    → context_of (slot_at new own) ≡ Some after → ((other : ℕ) → own ≢ other → slot_at new other ≡ kept_slot gone other (slot_at old other))
    → Changed old (Becomes gone own after) new
changed_entered old new gone own after is others = λ other. elim (cases_eq own other) [
  | inl e ↦ rw (eq-eqb own other e) (ap context_of (ap (slot_at new) (sym e)) ∙ is)
  | inr ne ↦ rw (ne_eqb own other ne) (ap context_of (others other ne) ∙ kept_context gone other (slot_at old other))
]

-- ---- a later token's change is of its own context alone

abbrev pub Owns : Change → ℕ → Type 0
Owns Same id = ⊥
Owns (Ends gone) id = gone ≡ id
Owns (Becomes lapsed own after) id = own ≡ id

owned : (change : Change) (id : ℕ) (a b : Option (Context AcceptEnd Outcome)) → Owns change id → changed change id a ≡ changed change id b
owned Same id a b owns = absurd owns
owned (Ends gone) id a b owns = rw (eq-eqb gone id owns) refl
owned (Becomes lapsed own after) id a b owns = rw (eq-eqb own id owns) refl

pub changed_held : (old held new : Places AcceptEnd Outcome) (id : ℕ) (change : Change) → Owns change id → KeepsOthers old held id → Changed held change new
    → Changed old change new
changed_held old held new id change owns others is = λ other. elim (cases_eq id other) [
  | inl e ↦ is other ∙ owned change other _ _ (subst (Owns change) e owns)
  | inr ne ↦ is other ∙ ap (λ (slot : Option (Slot _ _)). changed change other (context_of slot)) (others.others other ne)
]

owns_mark : (book : Stands) (id : ℕ) (past : Option ℕ) (mark : Option Mark) (step : AcceptStep) (refusal : Option MarkRefusal)
    → Owns (by_mark book (Some id) past mark step refusal).change id
owns_mark book id past mark step None = refl
owns_mark book id past mark step (Some refusal) = refl

pub owns_step : (book : Stands) (id : ℕ) (past : Option ℕ) (r : Result Accepted NegRefusal) → Owns (by_step book (Some id) past r).change id
owns_step book id past (Err refusal) = refl
owns_step book id past (Ok accepted) =
    owns_mark book id past (mark_of accepted.step) (settled_of accepted.step) (mark_refused book.capacity book.greatest (taken_of book.history) (mark_of accepted.step))
