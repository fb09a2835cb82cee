-- What the opening of a journal comes to, by its file alone.
use Rattle.std.specs.Prelude.{◌≡◌, ◌⊎◌, ℕ, ◌+◌, ◌*◌, ◌<◌, nat_lt, IsTrue, List, [], length}
use Rattle.std.specs.Prelude.{if◌then◌else◌}
use Rattle.std.specs.Prelude.{Option, None, Some, Result, Ok, Err}
use Rattle.replay_journal.specs.declared.disk.Disk as disks
use Rattle.replay_journal.specs.declared.opening.JournalRefusal.{JournalRefusal}
use Rattle.replay_journal.specs.declared.opening.Unopened.{Unopened}
use Rattle.replay_journal.specs.declared.opening.JournalRefusal.TheVariants.{DiskFault}
use Rattle.replay_journal.specs.declared.opening.JournalRefusal.TheVariants.{BadJournal, TooMany}
use Rattle.replay_journal.specs.declared.opening.JournalRefusal.TheVariants.{NoMemory}
use Rattle.replay_journal.specs.Disks.{Only, LeavesOnly}
use Rattle.replay_journal.specs.Files.{counted, is_bad, greatest_of}
use Rattle.replay_journal.specs.Journals.{JournalOf, Based, recent_marks, records_of}

-- the greatest moment that an opening starts from
abbrev pub greatest_at_start : List ℕ → ℕ → ℕ
greatest_at_start file start = greatest_of start (counted file)

-- how many marks of the file are recent, each counted once
abbrev pub recent_count : List ℕ → ℕ → ℕ
recent_count file start = length (recent_marks (greatest_at_start file start) 0 [] (counted file))

-- why a file isn't opened, where the disk and the memory serve
abbrev pub refusal_of : List ℕ → ℕ → ℕ → Option JournalRefusal
refusal_of file capacity start =
    if is_bad file then Some BadJournal
    else if nat_lt capacity (recent_count file start) then Some TooMany else None

-- a refusal is that one, unless the disk failed or memory was wanting
abbrev pub RefusedBy : Option JournalRefusal → JournalRefusal → Type 0
RefusedBy due why = (due ≡ Some why) ⊎ ((why ≡ DiskFault) ⊎ (why ≡ NoMemory))

-- the disk that an answer gives back, or keeps
abbrev pub disk_after : {K : Type 0} → Result (JournalOf K) (Unopened K) → K
disk_after (Ok journal) = journal.disk
disk_after (Err refused) = refused.disk

-- more than half of the records, and two at least, are of marks that are too old or stand there
-- twice
abbrev pub IsMostlyStale : List ℕ → ℕ → Type 0
IsMostlyStale file start = 2 * recent_count file start + 1 < length (counted file)

-- an opening on a disk that tells, of which a crash left this image: what a crash leaves up to
-- its end
pub record Tries {K : Type 0} (d : disks.Ghosts K) (image : List ℕ) (start : ℕ)
    (disk last : K) : Type 0 where
  pub told : IsTrue (d.tells disk)
  pub read : d.contents disk ≡ image
  pub left : Only image (d.may_leave disk)
  pub images : LeavesOnly d.moment d.left_since disk last
      (λ c. Based (IsMostlyStale image start) (greatest_at_start image start) (counted image)
      (counted c))

-- what `open` does on such a disk
pub record Opens {K : Type 0} (d : disks.Ghosts K) (image : List ℕ) (start : ℕ) (disk : K)
    (new : JournalOf K) : Type 0 where
  pub tries : Tries d image start disk new.disk
  pub tells : IsTrue (d.tells new.disk)
  pub records : Based (IsMostlyStale image start) (greatest_at_start image start) (counted image)
      (records_of d new.disk)
  pub durable : Only (d.contents new.disk) (d.may_leave new.disk)
  pub greatest : new.cache.greatest ≡ greatest_at_start image start
