-- Runs of a journal on one disk, each ended by its return or by a crash.
use Rattle.std.specs.Prelude.{◌≡◌, ◌⊎◌, ℕ, true, false, List, [], ◌∷◌, ◌++◌}
use Rattle.gss_base.specs.declared.mark.Mark.{Mark}
use Rattle.replay_cache.specs.Taking.{same_mark}
use Rattle.replay_journal.specs.declared.disk.Disk as disks
use Rattle.replay_journal.specs.declared.judging.Request.{Request}
use Rattle.replay_journal.specs.Disks.{LeavesOnly, Only}
use Rattle.replay_journal.specs.Files.{body_of, mark_in}
use Rattle.replay_journal.specs.Groups.{Due, bodies_of}
use Rattle.replay_journal.specs.Journals.{JournalOf, IsTaken, Leaves, BeforeOrAll, Fresh}
use Rattle.replay_journal.specs.Journals.{records_of}
use Rattle.replay_journal.specs.Openings.{Opens, Tries}
use Rattle.replay_journal.specs.declared.journal.JournalVerdict.{JournalVerdict}
use Rattle.replay_journal.specs.declared.journal.JournalVerdict.TheVariants.{Taken, Stale, Repeat}
use Rattle.replay_journal.specs.declared.journal.JournalVerdict.TheVariants.{Full, DiskFault}
use Rattle.replay_journal.specs.declared.journal.JournalVerdict.TheVariants.{Closed, NoMemory}

-- a call of `keep` and its answer
pub record Call : Type 0 where
  pub now : ℕ
  pub mark : Mark
  pub answer : JournalVerdict

-- what `keep` does to a journal over a disk that tells
pub record Keeps {K : Type 0} (d : disks.Ghosts K) (old : JournalOf K) (call : Call)
    (new : JournalOf K) : Type 0 where
  pub tells : d.tells new.disk ≡ d.tells old.disk
  pub unclosed : call.answer ≡ Taken → old.closed ≡ false
  pub images : old.closed ≡ false → LeavesOnly d.moment d.left_since old.disk new.disk
      (Leaves d old call.now call.mark)
  pub taken : call.answer ≡ Taken → IsTaken d old new call.now call.mark
  pub same : (call.answer ≡ Taken → ⊥) → (call.answer ≡ DiskFault → ⊥)
      → d.contents new.disk ≡ d.contents old.disk
  pub shut : call.answer ≡ DiskFault → new.closed ≡ true
  pub still : old.closed ≡ true → new ≡ old

-- these requests with these answers, as far as there are answers
abbrev pub calls_of : List Request → List JournalVerdict → List Call
calls_of [] answers = []
calls_of (one ∷ more) [] = []
calls_of (one ∷ more) (answer ∷ answers) =
    record { now = one.now; mark = one.mark; answer = answer } ∷ calls_of more answers

-- each of these requests with this answer
abbrev pub all_told : JournalVerdict → List Request → List Call
all_told answer [] = []
all_told answer (one ∷ more) =
    record { now = one.now; mark = one.mark; answer = answer } ∷ all_told answer more

-- the marks that were answered Taken, the first one first
abbrev pub taken_in : JournalVerdict → Mark → List Mark → List Mark
taken_in Taken mark marks = mark ∷ marks
taken_in (Stale greatest) mark marks = marks
taken_in (Repeat place) mark marks = marks
taken_in Full mark marks = marks
taken_in DiskFault mark marks = marks
taken_in Closed mark marks = marks
taken_in NoMemory mark marks = marks

abbrev pub taken_marks : List Call → List Mark
taken_marks [] = []
taken_marks (call ∷ calls) = taken_in call.answer call.mark (taken_marks calls)

abbrev pub marks_of : List Due → List Mark
marks_of [] = []
marks_of (due ∷ more) = due.mark ∷ marks_of more

-- each is fresh to the records before its own, and a reader of its record finds it
abbrev pub AllFresh : List Due → List (List ℕ) → Type 0
AllFresh [] records = Unit {0}
AllFresh (due ∷ more) records = Fresh due.mark records
    × (mark_in (body_of due.mark due.greatest) ≡ due.mark)
    × AllFresh more (records ++ body_of due.mark due.greatest ∷ [])

-- those that were answered Taken are these, and their records are on the disk
pub record AreKept {K : Type 0} (d : disks.Ghosts K) (old : JournalOf K) (calls : List Call)
    (dues : List Due) (new : JournalOf K) : Type 0 where
  pub marks : taken_marks calls ≡ marks_of dues
  pub records : records_of d new.disk ≡ records_of d old.disk ++ bodies_of dues
  pub durable : Only (d.contents new.disk) (d.may_leave new.disk)

-- the disk failed, and none was answered Taken
pub record AreLost {K : Type 0} (calls : List Call) (new : JournalOf K) : Type 0 where
  pub none : taken_marks calls ≡ []
  pub shut : new.closed ≡ true

-- what `keep_all` does to a journal over a disk that tells: a crash at any moment of the call
-- leaves the records from before it, with all of the new ones or with none of them
pub record KeepsTogether {K : Type 0} (d : disks.Ghosts K) (old : JournalOf K)
    (calls : List Call) (new : JournalOf K) : Type 0 where
  pub dues : List Due
  pub tells : d.tells new.disk ≡ d.tells old.disk
  pub unclosed : old.closed ≡ false
  pub images : LeavesOnly d.moment d.left_since old.disk new.disk
      (BeforeOrAll (records_of d old.disk) (bodies_of dues))
  pub fresh : AllFresh dues (records_of d old.disk)
  pub outcome : AreKept d old calls dues new ⊎ AreLost calls new

-- a call of `keep`, or one of `keep_all`
pub data Step : Type 0 where
  Alone : Call → Step
  Together : List Call → Step

abbrev pub Does : {K : Type 0} → disks.Ghosts K → JournalOf K → Step → JournalOf K → Type 0
Does d old (Alone call) new = Keeps d old call new
Does d old (Together calls) new = KeepsTogether d old calls new

-- such calls, one after the other
abbrev pub DoesAll : {K : Type 0} → disks.Ghosts K → JournalOf K → List Step → JournalOf K → Type 0
DoesAll d old [] new = new ≡ old
DoesAll d old (step ∷ steps) new = (mid : JournalOf _) × Does d old step mid
    × DoesAll d mid steps new

-- a run that was opened on an image: its calls that were answered, and what was left by a crash
-- after the last of them, or inside one call more; or it was refused, or crashed while it opened
pub data Run {K : Type 0} (d : disks.Ghosts K) (image : List ℕ) (steps : List Step)
    (left : List ℕ) : Type 0 where
  Between : (start : ℕ) (disk : K) (first last : JournalOf K) → Opens d image start disk first
      → DoesAll d first steps last → d.may_leave last.disk left → Run d image steps left
  Inside : (start : ℕ) (disk : K) (first last next : JournalOf K) (step : Step)
      → Opens d image start disk first → DoesAll d first steps last → Does d last step next
      → d.left_since next.disk (d.moment last.disk) left → Run d image steps left
  Opening : (start : ℕ) (disk last : K) → Tries d image start disk last → steps ≡ []
      → d.left_since last (d.moment disk) left → Run d image steps left

-- runs on one disk: the calls of each, the first run's first
abbrev pub Runs : {K : Type 0} → disks.Ghosts K → List ℕ → List (List Step) → Type 0
Runs d image [] = Unit {0}
Runs d image (steps ∷ runs) = (left : List ℕ) × Run d image steps left × Runs d left runs

-- the marks that were answered Taken, the newest first
abbrev pub answered : JournalVerdict → Mark → List Mark → List Mark
answered Taken mark marks = mark ∷ marks
answered (Stale greatest) mark marks = marks
answered (Repeat place) mark marks = marks
answered Full mark marks = marks
answered DiskFault mark marks = marks
answered Closed mark marks = marks
answered NoMemory mark marks = marks

abbrev pub after_calls : List Call → List Mark → List Mark
after_calls [] marks = marks
after_calls (call ∷ calls) marks = after_calls calls (answered call.answer call.mark marks)

abbrev pub after_steps : List Step → List Mark → List Mark
after_steps [] marks = marks
after_steps (Alone call ∷ steps) marks =
    after_steps steps (answered call.answer call.mark marks)
after_steps (Together calls ∷ steps) marks = after_steps steps (after_calls calls marks)

abbrev pub after_runs : List (List Step) → List Mark → List Mark
after_runs [] marks = marks
after_runs (steps ∷ runs) marks = after_runs runs (after_steps steps marks)

-- no mark of the list is this one, and no two are the same
abbrev pub Without : Mark → List Mark → Type 0
Without mark [] = Unit {0}
Without mark (other ∷ more) = (same_mark mark other ≡ false) × Without mark more

abbrev pub Distinct : List Mark → Type 0
Distinct [] = Unit {0}
Distinct (mark ∷ more) = Without mark more × Distinct more
