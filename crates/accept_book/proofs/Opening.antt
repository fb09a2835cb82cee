-- A later token's step, once its context's state was taken.
use Rattle.std.proofs.Common.{◌≡◌, ◌∙◌, ℕ, ◌+◌, ◌≤◌, false, refl, sym, ap, List, length, Option, None, Some}
use Rattle.std.specs.List.{slice_get}
use Rattle.std.specs.Prelude.{Result, Ok, Err}
use Rattle.std.proofs.lemmas.Bool.{le-ltb}
use Rattle.gss_base.specs.declared.mark.Mark.{Mark}
use Rattle.spnego_core.specs.declared.refusal.NegRefusal.{NegRefusal}
use Rattle.spnego_core.specs.declared.setup.AcceptSetup.{AcceptSetup}
use Rattle.spnego_core.specs.declared.accept_end.AcceptEnd.{AcceptEnd}
use Rattle.spnego_core.specs.declared.accept_end.AcceptStep.{AcceptStep}
use Rattle.spnego_core.specs.Accepting.{Accepted, accept_step}
use Rattle.context_table.specs.Places.{slot_at, state_of, held_after}
use Rattle.accept_core.specs.declared.entry.Entry.{Entry}
use Rattle.accept_core.specs.declared.answer.MarkRefusal.{MarkRefusal}
use Rattle.accept_core.specs.declared.answer.TakeRefusal.{TakeRefusal}
use Rattle.accept_book.specs.declared.book_answer.BookRefusal.TheVariants as refusals
use Rattle.accept_core.specs.History.{Standing, Unknown, Open, Whole, Over, taken_of}
use Rattle.accept_core.specs.Answers.{taken_by}
use Rattle.accept_core.specs.Aging.{in_use}
use Rattle.accept_core.specs.Entering.{mark_refused, entered}
use Rattle.accept_core.specs.Stepping.{ends_at, context_after, gone_of, is_crowded, settles}
use Rattle.accept_book.proofs.Contexts.{same_ends}
use Rattle.accept_book.specs.Booking.{Becomes, Stands, answer_with, next_of, mark_of, settled_of, refusal_of_mark, refuses, by_mark, taken, by_step, opened_by}

-- ---- what a later token's step comes to hangs on history, room for contexts and marks, and greatest moment alone

by_mark_same : (a b : Stands) (id : ℕ) (past : Option ℕ) (mark : Option Mark) (step : AcceptStep) (refusal : Option MarkRefusal) → a.history ≡ b.history
    → a.table.limit ≡ b.table.limit → a.greatest ≡ b.greatest → ends_at (slot_at a.table id) ≡ ends_at (slot_at b.table id)
    → by_mark a (Some id) past mark step refusal ≡ by_mark b (Some id) past mark step refusal
by_mark_same a b id past mark step (Some refusal) h l g u = ap (λ (xs : List Entry). refuses (Some id) xs (refusal_of_mark refusal)) h
by_mark_same a b id past mark step None h l g u = λ i. record {
  answer = answer_with id step;
  history = entered (Some id) (gone_of (is_crowded (settles (next_of step)) (h i) (l i)) false (slice_get (in_use (h i)) 0) past) mark (next_of step) (g i) (h i);
  change = Becomes (gone_of (is_crowded (settles (next_of step)) (h i) (l i)) false (slice_get (in_use (h i)) 0) past) id (context_after (u i) (next_of step));
}

taken_same : (a b : Stands) (id : ℕ) (past : Option ℕ) (mark : Option Mark) (step : AcceptStep) → a.history ≡ b.history → a.capacity ≡ b.capacity
    → a.table.limit ≡ b.table.limit → a.greatest ≡ b.greatest → ends_at (slot_at a.table id) ≡ ends_at (slot_at b.table id)
    → taken a (Some id) past mark step ≡ taken b (Some id) past mark step
taken_same a b id past mark step h c l g u =
    by_mark_same a b id past mark step (mark_refused a.capacity a.greatest (taken_of a.history) mark) h l g u
    ∙ ap (λ (refusal : Option MarkRefusal). by_mark b (Some id) past mark step refusal) (λ i. mark_refused (c i) (g i) (taken_of (h i)) mark)

by_step_same : (a b : Stands) (id : ℕ) (past : Option ℕ) (r : Result Accepted NegRefusal) → a.history ≡ b.history → a.capacity ≡ b.capacity
    → a.table.limit ≡ b.table.limit → a.greatest ≡ b.greatest → ends_at (slot_at a.table id) ≡ ends_at (slot_at b.table id) → by_step a (Some id) past r ≡ by_step b (Some id) past r
by_step_same a b id past (Err refusal) h c l g u = ap (λ (xs : List Entry). refuses (Some id) xs (refusals.Neg refusal)) h
by_step_same a b id past (Ok accepted) h c l g u = taken_same a b id past (mark_of accepted.step) (settled_of accepted.step) h c l g u

-- ---- the state that was taken

other_way : (x : AcceptEnd) (e : TakeRefusal) → ◌≡◌ {A = Result AcceptEnd TakeRefusal} (Ok x) (Err e) → ⊥
other_way x e q = cc

taken_state : (stands : Standing) (state : Option AcceptEnd) (end : AcceptEnd) → Ok end ≡ taken_by stands state → state ≡ Some end
taken_state Unknown state end e = absurd (other_way end _ e)
taken_state (Open at) None end e = absurd (other_way end _ e)
taken_state (Open at) (Some held) end e = let same : ◌≡◌ {A = Result AcceptEnd TakeRefusal} (Ok end) (Ok held) = e in cc
taken_state (Whole mech names ends) state end e = absurd (other_way end _ e)
taken_state Over state end e = absurd (other_way end _ e)

pub opened_step : (setup : AcceptSetup) (a b : Stands) (id : ℕ) (past : Option ℕ) (token : List ℕ) (now : ℕ) (draws : List ℕ) (stands : Standing) (end : AcceptEnd)
    → length b.history + 4 ≤ b.limit → Ok end ≡ taken_by stands (state_of (slot_at b.table id)) → a.history ≡ b.history → a.capacity ≡ b.capacity
    → a.table.limit ≡ b.table.limit → a.greatest ≡ b.greatest → slot_at a.table id ≡ held_after (slot_at b.table id)
    → by_step a (Some id) past (accept_step setup end token now draws) ≡ opened_by setup b id past token now draws
opened_step setup a b id past token now draws stands end room took h c l g held =
    let state : state_of (slot_at b.table id) ≡ Some end = taken_state stands (state_of (slot_at b.table id)) end took in
    by_step_same a b id past (accept_step setup end token now draws) h c l g (ap ends_at held ∙ same_ends (slot_at b.table id))
    ∙ sym (rw (le-ltb b.limit (length b.history + 4) room, state) refl)
