-- What a journal answered, and how that is told, by the desk that asked it or by another one.
use Rattle.std.specs.Prelude.{◌≡◌, ◌⊎◌, ℕ, true, false, List, [], ◌∷◌, ◌++◌, map, Option, None}
use Rattle.std.specs.Prelude.{Some, if◌then◌else◌}
use Rattle.gss_base.specs.declared.mark.Mark.{Mark}
use Rattle.accept_book.specs.declared.book_answer.BookRefusal.TheVariants as refusals
use Rattle.accept_book.specs.declared.book_answer.NegAnswer.{NegAnswer}
use Rattle.accept_book.specs.declared.book_answer.NegAnswer.TheVariants as answers
use Rattle.replay_cache.specs.declared.cache.TakenMark.{TakenMark}
use Rattle.replay_cache.specs.Taking.{Holds, cache_verdict, same_mark}
use Rattle.replay_journal.specs.declared.judging.Request.{Request}
use Rattle.replay_journal.specs.declared.journal.JournalVerdict.{JournalVerdict}
use Rattle.replay_journal.specs.declared.journal.JournalVerdict.TheVariants as verdicts
use Rattle.replay_journal.specs.Groups.{verdicts_on}
use Rattle.replay_journal.specs.Journals.{JournalOf, IsAnswer, greatest_at, kept_by}
use Rattle.journal_gate.specs.declared.behind.Answer.{Answer}

-- how an answer of the journal is told: one that was taken as the book's own answer
abbrev pub told_of : JournalVerdict → Option NegAnswer
told_of verdicts.Taken = None
told_of (verdicts.Stale greatest) = Some (answers.Refused (refusals.Stale greatest))
told_of (verdicts.Repeat place) = Some (answers.Refused (refusals.Repeat place))
told_of verdicts.Full = Some (answers.Refused refusals.CacheFull)
told_of verdicts.DiskFault = Some (answers.Refused refusals.Journal)
told_of verdicts.Closed = Some (answers.Refused refusals.Journal)
told_of verdicts.NoMemory = Some answers.NoMemory

-- a journal was asked to keep a mark, and this is how its answer is told
pub record KeptBy {K : Type 0} (journal : JournalOf K) (now : ℕ) (mark : Mark)
    (told : Option NegAnswer) : Type 0 where
  pub verdict : JournalVerdict
  pub is : told ≡ told_of verdict
  pub closed : journal.closed ≡ true → verdict ≡ verdicts.Closed
  pub answer : journal.closed ≡ false → (taken : List TakenMark) → Holds journal.cache taken
      → IsAnswer (kept_by (cache_verdict journal.cache.capacity (greatest_at journal now) taken
      mark)) journal.count verdict

-- the same, where one is kept
abbrev pub IsKept : {K : Type 0} → Option (JournalOf K) → ℕ → Mark → Option NegAnswer → Type 0
IsKept None now mark told = told ≡ None
IsKept (Some journal) now mark told = KeptBy journal now mark told

-- the first answer on a mark
abbrev pub left_on : Mark → List Answer → Option JournalVerdict
left_on mark [] = None
left_on mark (answer ∷ more) =
    if same_mark answer.mark mark then Some answer.verdict else left_on mark more

-- these verdicts on these marks, as far as there are verdicts
abbrev pub answers_of : List Request → List JournalVerdict → List Answer
answers_of [] said = []
answers_of (one ∷ more) [] = []
answers_of (one ∷ more) (verdict ∷ said) =
    record { mark = one.mark; verdict = verdict } ∷ answers_of more said

-- a journal was asked to keep these marks together: nothing was left, or what it said of each
abbrev pub IsLeft : {K : Type 0} → Option (JournalOf K) → List Request → List Answer → List Answer
    → Type 0
IsLeft None asked left left' = left' ≡ left
IsLeft (Some journal) asked left left' = (left' ≡ left) ⊎ ((taken : List TakenMark)
    → Holds journal.cache taken → left' ≡ left ++ answers_of asked (map kept_by
    (verdicts_on journal.cache.capacity journal.cache.greatest taken journal.count asked)))

-- a desk is told the answer that was left; where none was, or the disk failed, the journal is asked
abbrev pub TellsLeft : Option JournalVerdict → Option NegAnswer → Type 0
TellsLeft (Some verdicts.Taken) told = told ≡ told_of verdicts.Taken
TellsLeft (Some (verdicts.Stale greatest)) told = told ≡ told_of (verdicts.Stale greatest)
TellsLeft (Some (verdicts.Repeat place)) told = told ≡ told_of (verdicts.Repeat place)
TellsLeft (Some verdicts.Full) told = told ≡ told_of verdicts.Full
TellsLeft (Some verdicts.DiskFault) told = Unit {0}
TellsLeft (Some verdicts.Closed) told = Unit {0}
TellsLeft (Some verdicts.NoMemory) told = Unit {0}
TellsLeft None told = Unit {0}
