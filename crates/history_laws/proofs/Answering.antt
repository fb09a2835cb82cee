-- A book's log only grows, whatever the book answers.
use Rattle.std.proofs.Common.{◌≡◌, ◌≢◌, ◌⊎◌, ◌∙◌, inl, inr, ℕ, refl, sym, ap, subst, List, max, Option, Some, None}
use Rattle.spnego_core.specs.declared.accept_end.AcceptEnd.{AcceptEnd}
use Rattle.spnego_core.specs.declared.outcome.Outcome.{Outcome}
use Rattle.context_table.specs.Places.{Places, live_of}
use Rattle.accept_core.specs.Stepping.{IsNext}
use Rattle.accept_book.specs.declared.book_answer.NegAnswer.{NegAnswer}
use Rattle.accept_book.specs.declared.book_answer.NegAnswer.TheVariants as answers
use Rattle.accept_book.specs.declared.book_answer.Negotiated.{Negotiated}
use Rattle.accept_core.specs.declared.entry.Entry.{Entry}
use Rattle.accept_core.specs.Answers.{after}
use Rattle.accept_core.specs.History.{living}
use Rattle.accept_book.specs.Booking.{BookOf, raised}
use Rattle.accept_book.specs.RecordShown.{Asked, AskedStep, AskedLook, AskedAdmit, AskedEnd}
use Rattle.accept_book.specs.BookAnswers.{BookStepped}
use Rattle.gss_server.specs.Asking.{BookAnswers}
use Rattle.history_laws.proofs.Histories.{Fronts, no-front, one-front, same-front, refusal-front, negotiated-front}
use Rattle.accept_core.specs.declared.entry.Receipt.{Receipt}

-- memory was wanted, or not
pub memory-cases : (answer : NegAnswer) → (answer ≡ answers.NoMemory) ⊎ (answer ≢ answers.NoMemory)
memory-cases (answers.Going id token) = inr (λ e. cc)
memory-cases (answers.Settled lease token) = inr (λ e. cc)
memory-cases (answers.Refused refusal) = inr (λ e. cc)
memory-cases answers.NoMemory = inl refl

stepped-front : (old new : BookOf) (id past : Option ℕ) (token : List ℕ) (now : ℕ) (draws : List ℕ) (answer : Negotiated) → IsNext old.core.table (max old.core.cache.greatest now) past
    → BookStepped old new id token now draws answer → Fronts old.core.history new.core.history
stepped-front old new id past token now draws answer is_past b = elim (memory-cases answer.answer) [
  | inl short ↦ subst (Fronts old.core.history) (sym (b.comes.memory short).history) (refusal-front id old.core.history)
  | inr enough ↦ subst (Fronts old.core.history) (sym (b.comes.outcome past (λ first. is_past) enough).history) (negotiated-front old.setup (raised old.core now) id past token now draws)
]

after-front : {R : Type 0} (refusal : Option R) (entry : Entry) (h : List Entry) → Fronts h (after refusal entry h)
after-front None entry h = one-front entry h h (no-front h)
after-front (Some refusal) entry h = no-front h

-- the context that gives its place to a new one, at the moment of a step
abbrev pub IsNextFor : BookOf → Option ℕ → Asked Receipt → Type 0
IsNextFor old past (AskedStep id token now draws answer) = IsNext old.core.table (max old.core.cache.greatest now) past
IsNextFor old past (AskedLook id now answer) = Unit {0}
IsNextFor old past (AskedAdmit lease seq service procedure args answer) = Unit {0}
IsNextFor old past (AskedEnd lease seq answer) = Unit {0}

pub answers-front : (old new : BookOf) (past : Option ℕ) (asked : Asked Receipt) → IsNextFor old past asked → BookAnswers old asked new → Fronts old.core.history new.core.history
answers-front old new past (AskedStep id token now draws answer) is_past b = stepped-front old new id past token now draws answer is_past b
answers-front old new past (AskedLook id now answer) is_past b = same-front old.core.history new.core.history b.looked.history
answers-front old new past (AskedAdmit lease seq service procedure args answer) is_past b = subst (Fronts old.core.history) (sym b.history) (after-front _ _ old.core.history)
answers-front old new past (AskedEnd lease seq answer) is_past b = subst (Fronts old.core.history) (sym b.history) (after-front _ _ old.core.history)

pub answers-setup : (old new : BookOf) (asked : Asked Receipt) → BookAnswers old asked new → new.setup ≡ old.setup
answers-setup old new (AskedStep id token now draws answer) b = b.notes.setup
answers-setup old new (AskedLook id now answer) b = b.setup
answers-setup old new (AskedAdmit lease seq service procedure args answer) b = b.setup
answers-setup old new (AskedEnd lease seq answer) b = b.setup

-- as many contexts live as the log says, if as many did before
pub answers-live : (old new : BookOf) (asked : Asked Receipt) → live_of old.core.table ≡ living old.core.history → BookAnswers old asked new → live_of new.core.table ≡ living new.core.history
answers-live old new (AskedStep id token now draws answer) live b = b.lives
answers-live old new (AskedLook id now answer) live b =
    ap (λ (t : Places AcceptEnd Outcome). live_of t) b.looked.table ∙ (live ∙ ap living (sym b.looked.history))
answers-live old new (AskedAdmit lease seq service procedure args answer) live b = b.lives
answers-live old new (AskedEnd lease seq answer) live b = b.lives
