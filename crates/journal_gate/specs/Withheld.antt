-- What is told of a book's answers where a journal keeps the authenticators that the book takes:
-- the same, or the journal's refusal.
use Rattle.std.specs.Prelude.{◌≡◌, ◌⊎◌, ℕ, ◌+◌, Bool, true, List, [], ◌∷◌, Option, Some, None}
use Rattle.gss_base.specs.declared.mark.Mark.{Mark}
use Rattle.accept_core.specs.declared.entry.Entry.{Entry}
use Rattle.accept_core.specs.declared.entry.Entry.TheVariants.{Auth}
use Rattle.accept_core.specs.declared.entry.Receipt.{Receipt}
use Rattle.accept_core.specs.Entering.{given}
use Rattle.accept_book.specs.declared.book_answer.BookRefusal.{BookRefusal}
use Rattle.accept_book.specs.declared.book_answer.BookRefusal.TheVariants as refusals
use Rattle.accept_book.specs.declared.book_answer.NegAnswer.{NegAnswer}
use Rattle.accept_book.specs.declared.book_answer.NegAnswer.TheVariants as answers
use Rattle.accept_book.specs.declared.book_answer.Negotiated.{Negotiated}
use Rattle.accept_book.specs.RecordShown.{Asked, AskedStep}
use Rattle.accept_book.specs.declared.book_answer.Admitted.{Admitted}
use Rattle.replay_journal.specs.Journals.{JournalOf}

-- ---- the authenticator that a step took

-- the mark of an entry Auth, else this one
abbrev pub auth_or : Entry → Option Mark → Option Mark
auth_or (Auth id mark at) other = Some mark
auth_or entry other = other

-- the mark of the first receipt Auth
abbrev pub auth_in : List Receipt → Option Mark
auth_in [] = None
auth_in (receipt ∷ receipts) = auth_or receipt.entry (auth_in receipts)

-- this mark, where the token goes on or completes its context
abbrev pub where_taken : NegAnswer → Option Mark → Option Mark
where_taken (answers.Going id token) mark = mark
where_taken (answers.Settled lease token) mark = mark
where_taken (answers.Refused refusal) mark = None
where_taken answers.NoMemory mark = None

-- the mark of the authenticator that a step took: that of its receipt Auth
abbrev pub taken_in : Negotiated → Option Mark
taken_in step = where_taken step.answer (auth_in (given step.receipts))

-- ---- the journal's refusals

-- what a journal refuses: a mark that is too old, one that was taken, also by an earlier run, or
-- more of them than it holds; or its disk failed
abbrev pub JournalRefuses : BookRefusal → Type 0
JournalRefuses refusals.NoContext = ⊥
JournalRefuses refusals.AlreadyComplete = ⊥
JournalRefuses refusals.LogFull = ⊥
JournalRefuses refusals.TableFull = ⊥
JournalRefuses (refusals.Neg refusal) = ⊥
JournalRefuses (refusals.Stale greatest) = Unit {0}
JournalRefuses (refusals.Repeat place) = Unit {0}
JournalRefuses refusals.CacheFull = Unit {0}
JournalRefuses refusals.Journal = Unit {0}

-- what is told in the place of a book's answer: such a refusal, or that memory was wanted
abbrev pub IsJournals : NegAnswer → Type 0
IsJournals (answers.Going id token) = ⊥
IsJournals (answers.Settled lease token) = ⊥
IsJournals (answers.Refused refusal) = JournalRefuses refusal
IsJournals answers.NoMemory = Unit {0}

-- 1 where the journal's disk failed an answer
abbrev pub failed_by : BookRefusal → ℕ
failed_by refusals.NoContext = 0
failed_by refusals.AlreadyComplete = 0
failed_by refusals.LogFull = 0
failed_by refusals.TableFull = 0
failed_by (refusals.Neg refusal) = 0
failed_by (refusals.Stale greatest) = 0
failed_by (refusals.Repeat place) = 0
failed_by refusals.CacheFull = 0
failed_by refusals.Journal = 1

abbrev pub failed_in : NegAnswer → ℕ
failed_in (answers.Going id token) = 0
failed_in (answers.Settled lease token) = 0
failed_in (answers.Refused refusal) = failed_by refusal
failed_in answers.NoMemory = 0

-- of a mark the journal said this: nothing is counted where it was kept; else its answer is told
abbrev pub Counted : ℕ → Option NegAnswer → ℕ → Type 0
Counted failed None failed' = failed' ≡ failed
Counted failed (Some answer) failed' =
    IsJournals answer × (failed' ≡ failed + failed_in answer)

-- a step that took an authenticator is told with this answer in the place of its own, and with the
-- receipts that it has
pub record Withheld (first one : Asked Admitted) (answer : NegAnswer) : Type 0 where
  pub id : Option ℕ
  pub token : List ℕ
  pub now : ℕ
  pub draws : List ℕ
  pub step : Negotiated
  pub mark : Mark
  pub asked : first ≡ AskedStep id token now draws step
  pub taken : taken_in step ≡ Some mark
  pub told : one ≡ AskedStep id token now draws
      (record { answer = answer; receipts = step.receipts })
  pub journals : IsJournals answer

-- a question is told with its answer as the book gave it; or, with a journal, the authenticator
-- that the book took is refused by the journal, which tells why. The answers that its disk failed
-- are counted
abbrev pub IsTold : Bool → Asked Admitted → ℕ → Asked Admitted → ℕ → Type 0
IsTold journaled first failed one failed' = ((one ≡ first) × (failed' ≡ failed))
    ⊎ ((journaled ≡ true) × (answer : NegAnswer) × Withheld first one answer
    × (failed' ≡ failed + failed_in answer))

-- what a gate with a journal may answer, over another that may answer so
pub record JournalAnswers {S : Type 0} (answers : S → Asked Admitted → S → Type 0)
    (journaled : Bool) (old : S) (failed : ℕ) (one : Asked Admitted) (journaled' : Bool) (new : S)
    (failed' : ℕ) : Type 0 where
  pub first : Asked Admitted
  pub asked : answers old first new
  pub told : IsTold journaled first failed one failed'
  pub same : journaled' ≡ journaled

-- ---- a journal, where one is kept

-- how many faults its disk has counted
abbrev pub journal_faults : {K : Type 0} → (K → ℕ) → Option (JournalOf K) → ℕ
journal_faults faults None = 0
journal_faults faults (Some journal) = faults journal.disk

-- the same of the disk alone
abbrev pub disk_faults : {K : Type 0} → (K → ℕ) → Option K → ℕ
disk_faults faults None = 0
disk_faults faults (Some disk) = faults disk

-- its disk failed, and it is closed
abbrev pub is_shut : {K : Type 0} → Option (JournalOf K) → Type 0
is_shut None = ⊥
is_shut (Some journal) = journal.closed ≡ true
