-- What a gate tells of the questions that it was asked.
use Rattle.std.specs.Prelude.{◌≡◌, ◌≤◌, ℕ, ◌+◌, Bool, IsTrue, List, [], ◌∷◌, ◌++◌, length}
use Rattle.sha1.specs.Sha1.{sha1}
use Rattle.spnego_core.specs.declared.accept_end.AcceptEnd.{AcceptEnd}
use Rattle.spnego_core.specs.declared.outcome.Outcome.{Outcome}
use Rattle.accept_core.specs.Replays.{Accepting}
use Rattle.accept_book.specs.RecordShown.{Asked, AskedStep, AskedLook, AskedAdmit, AskedEnd}
use Rattle.accept_book.specs.RecordShown.{with_ok}
use Rattle.accept_book.specs.declared.book_answer.Admitted.{Admitted}
use Rattle.accept_book.specs.declared.book_answer.NegAnswer.{NegAnswer}
use Rattle.accept_core.specs.declared.entry.Limits.{Limits}
use Rattle.accept_book.specs.declared.book_answer.NegAnswer.TheVariants as steps
use Rattle.gss_server.specs.declared.told.StepTold.{StepTold}
use Rattle.gss_server.specs.declared.told.StepTold.TheVariants as tolds
use Rattle.gss_server.specs.declared.told.Told.{Told}
use Rattle.gss_server.specs.declared.told.Told.TheVariants.{Negotiating, Looking, Admitting, Ending}

-- a step's answer, its tokens by their SHA-1
abbrev pub step_told : NegAnswer → StepTold
step_told (steps.Going id token) = tolds.Going id (sha1 token)
step_told (steps.Settled lease token) = tolds.Settled lease (sha1 token)
step_told (steps.Refused refusal) = tolds.Refused refusal
step_told steps.NoMemory = tolds.NoMemory

-- a question with its answer, as it is told: arguments by their SHA-1, and of an admission the
-- receipt
abbrev pub told_of : Asked Admitted → Told
told_of (AskedStep id token now draws answer) =
    Negotiating id (sha1 token) now draws (step_told answer.answer) answer.receipts
told_of (AskedLook id now answer) = Looking id now answer
told_of (AskedAdmit lease seq service procedure args answer) =
    Admitting lease seq service procedure (sha1 args)
    (with_ok (λ admitted. admitted.receipt) answer)
told_of (AskedEnd lease seq answer) = Ending lease seq answer

-- these were told, each in one place of the room
pub record Gains (room room' : ℕ) (old new more : List Told) : Type 0 where
  pub gained : new ≡ old ++ more
  pub used : room ≡ room' + length more

-- a gate that tells, and has room for so many, gained these
abbrev pub GainsWith : (tells : Bool) (least room room' : ℕ) (old new more : List Told) → Type 0
GainsWith tells least room room' old new more =
    IsTrue tells → least ≤ room → Gains room room' old new more

-- a gate was asked this question, and told it with its answer where it tells and has room for one
abbrev pub Tells : {S : Type 0} → (S → Bool) → (S → ℕ) → (S → List Told) → S → S → Asked Admitted
    → Type 0
Tells tells room told old new one =
    GainsWith (tells old) 1 (room old) (room new) (told old) (told new) (told_of one ∷ [])

-- the limits under which a book is kept
abbrev pub limits_of : Accepting AcceptEnd Outcome → Limits
limits_of core = record {
  contexts = core.table.limit;
  marks = core.cache.capacity;
  log = core.limit;
  width = core.width;
  keeping = core.keeping;
}
