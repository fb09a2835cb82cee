-- A journal over a disk: what it keeps of the file, and what it answers.
use Rattle.std.specs.Prelude.{◌≡◌, ◌⊎◌, ℕ, ◌+◌, ◌-◌, ◌^◌, ◌≤◌, Bool, false, max, IsTrue}
use Rattle.std.specs.Prelude.{List, [], ◌∷◌, ◌++◌, length, Option, None, Some}
use Rattle.gss_base.specs.declared.mark.Mark.{Mark}
use Rattle.replay_cache.specs.declared.cache.TakenMark.{TakenMark}
use Rattle.replay_cache.specs.declared.cache.CacheVerdict.{CacheVerdict}
use Rattle.replay_cache.specs.declared.cache.CacheVerdict.TheVariants as verdicts
use Rattle.replay_cache.specs.Taking.{Cached, Holds, skew, same_mark, place_of, kept_of}
use Rattle.replay_cache.specs.Taking.{cache_verdict, with_taken}
use Rattle.replay_journal.specs.declared.disk.Disk as disks
use Rattle.replay_journal.specs.Disks.{Only}
use Rattle.replay_journal.specs.Files.{counted, Rests, body_of, mark_in, greatest_in, renewed}
use Rattle.replay_journal.specs.Files.{no_mark}
use Rattle.replay_journal.specs.declared.journal.JournalVerdict.{JournalVerdict}
use Rattle.replay_journal.specs.declared.journal.JournalVerdict.TheVariants.{Taken, Stale, Repeat}
use Rattle.replay_journal.specs.declared.journal.JournalVerdict.TheVariants.{Full, DiskFault}
use Rattle.replay_journal.specs.declared.journal.JournalVerdict.TheVariants.{NoMemory}

-- how many records a file has at most: twice what a cache has room for
abbrev pub most : ℕ
most = 2000000

-- what a journal is
pub record JournalOf (K : Type 0) : Type 0 where
  pub disk : K
  pub cache : Cached
  pub count : ℕ
  pub closed : Bool

-- a mark has no place, and one that has
abbrev pub HasPlace : Option ℕ → Type 0
HasPlace None = ⊥
HasPlace (Some place) = Unit {0}

-- each record's mark is among the taken ones, unless it is older than the skew
abbrev pub Covers : ℕ → List TakenMark → List (List ℕ) → Type 0
Covers greatest taken [] = Unit {0}
Covers greatest taken (body ∷ more) =
    (greatest - (mark_in body).at ≤ skew → HasPlace (place_of (mark_in body) taken))
    × Covers greatest taken more

-- no record has this mark, and none was written at a moment at which it was older than the skew
abbrev pub Fresh : Mark → List (List ℕ) → Type 0
Fresh mark [] = Unit {0}
Fresh mark (body ∷ more) = (same_mark (mark_in body) mark ≡ false)
    × (greatest_in body - mark.at ≤ skew) × Fresh mark more

-- no mark lies further ahead of the moment than the skew, and none was taken at a later one
abbrev pub AllNear : ℕ → List (List ℕ) → Type 0
AllNear greatest [] = Unit {0}
AllNear greatest (body ∷ more) = ((mark_in body).at ≤ greatest + skew)
    × (greatest_in body ≤ greatest) × AllNear greatest more

-- records of a file that is made anew: a mark that is fresh to them is fresh to the old ones
pub record IsRenewal (greatest : ℕ) (old new : List (List ℕ)) : Type 0 where
  pub is : new ≡ renewed greatest old
  pub known : (mark : Mark) → Fresh mark new → Fresh mark old

-- the records, or where it is due those of the file made anew
abbrev pub Based : Type 0 → ℕ → List (List ℕ) → List (List ℕ) → Type 0
Based due greatest records base = (base ≡ records) ⊎ (due × IsRenewal greatest records base)

-- the records of the file as it reads
abbrev pub records_of : {K : Type 0} → disks.Ghosts K → K → List (List ℕ)
records_of d disk = counted (d.contents disk)

-- the file is whole, all of it is on the disk, and its marks are known
pub record Stands {K : Type 0} (d : disks.Ghosts K) (disk : K) (cache : Cached)
    (count : ℕ) : Type 0 where
  pub rests : Rests (records_of d disk) (d.contents disk)
  pub durable : Only (d.contents disk) (d.may_leave disk)
  pub counts : count ≡ length (records_of d disk)
  pub taken : List TakenMark
  pub holds : Holds cache taken
  pub covers : Covers cache.greatest taken (records_of d disk)
  pub near : AllNear cache.greatest (records_of d disk)

-- what a journal keeps
pub record IsJournal {K : Type 0} (d : disks.Ghosts K) (disk : K) (cache : Cached) (count : ℕ)
    (closed : Bool) : Type 0 where
  pub small : count ≤ 2 ^ 59
  pub stands : closed ≡ false → IsTrue (d.tells disk) → Stands d disk cache count

-- the file has these records, with one more or without
abbrev pub BeforeOrAfter : List (List ℕ) → List ℕ → List ℕ → Type 0
BeforeOrAfter records body c = Rests records c ⊎ Rests (records ++ body ∷ []) c

-- the file has these records, with all of the new ones or with none of them
abbrev pub BeforeOrAll : List (List ℕ) → List (List ℕ) → List ℕ → Type 0
BeforeOrAll records new c = Rests records c ⊎ Rests (records ++ new) c

-- a file that a crash leaves: it has the records, or where it is due those of one made anew
pub record HasBase (due : Type 0) (greatest : ℕ) (records : List (List ℕ))
    (c : List ℕ) : Type 0 where
  pub base : List (List ℕ)
  pub based : Based due greatest records base
  pub rests : Rests base c

-- the same, with one more or without
pub record HasMore (due : Type 0) (greatest : ℕ) (records : List (List ℕ))
    (body c : List ℕ) : Type 0 where
  pub base : List (List ℕ)
  pub based : Based due greatest records base
  pub rests : BeforeOrAfter base body c

-- the file was made anew and has so many records
pub record IsRenewed {K : Type 0} (d : disks.Ghosts K) (old new : K)
    (greatest count : ℕ) : Type 0 where
  pub renewal : IsRenewal greatest (records_of d old) (renewed greatest (records_of d old))
  pub rests : Rests (renewed greatest (records_of d old)) (d.contents new)
  pub durable : Only (d.contents new) (d.may_leave new)
  pub counts : count ≡ length (renewed greatest (records_of d old))
  pub near : AllNear greatest (renewed greatest (records_of d old))
  pub nobody : mark_in (body_of no_mark greatest) ≡ no_mark

-- the file has so many records, and was made anew only where that was due
pub record IsRefreshed {K : Type 0} (d : disks.Ghosts K) (due : Type 0) (old new : K)
    (greatest count : ℕ) : Type 0 where
  pub based : Based due greatest (records_of d old) (records_of d new)
  pub rests : Rests (records_of d new) (d.contents new)
  pub durable : Only (d.contents new) (d.may_leave new)
  pub counts : count ≡ length (records_of d new)
  pub near : AllNear greatest (records_of d new)
  pub covers : (taken : List TakenMark) → Covers greatest taken (records_of d old)
      → Covers greatest taken (records_of d new)

-- the file has one record more, that of a mark that was fresh
pub record IsPut {K : Type 0} (d : disks.Ghosts K) (old new : JournalOf K)
    (mark : Mark) : Type 0 where
  pub records : records_of d new.disk ≡ records_of d old.disk
      ++ body_of mark old.cache.greatest ∷ []
  pub durable : Only (d.contents new.disk) (d.may_leave new.disk)
  pub fresh : Fresh mark (records_of d old.disk)
  pub back : mark_in (body_of mark old.cache.greatest) ≡ mark

-- the greatest moment of a call
abbrev pub greatest_at : {K : Type 0} → JournalOf K → ℕ → ℕ
greatest_at journal now = max journal.cache.greatest now

-- what `keep` may leave of the records: with a new one or without, where the file was full of
-- one made anew
abbrev pub Leaves : {K : Type 0} → disks.Ghosts K → JournalOf K → ℕ → Mark → List ℕ → Type 0
Leaves d journal now mark c = HasMore (most ≤ journal.count) (greatest_at journal now)
    (records_of d journal.disk) (body_of mark (greatest_at journal now)) c

-- what a verdict of the cache is called
abbrev pub kept_by : CacheVerdict → JournalVerdict
kept_by (verdicts.Stale greatest) = Stale greatest
kept_by (verdicts.Repeat place) = Repeat place
kept_by verdicts.Full = Full
kept_by verdicts.Taken = Taken

-- a mark that is due to be taken isn't: the disk failed, or the file holds as many records as it
-- may, and there was no memory to make it anew or as many are recent
abbrev pub MayFail : ℕ → JournalVerdict → Type 0
MayFail count answer = (answer ≡ DiskFault)
    ⊎ ((most ≤ count) × ((answer ≡ Full) ⊎ (answer ≡ NoMemory)))

-- the answer is this one, or where it is Taken one of those
abbrev pub IsAnswer : JournalVerdict → ℕ → JournalVerdict → Type 0
IsAnswer due count answer = (answer ≡ due) ⊎ ((due ≡ Taken) × MayFail count answer)

-- the cache is full, or a file made anew would have no room behind the recent records
abbrev pub IsCrowded : CacheVerdict → ℕ → List (List ℕ) → Type 0
IsCrowded verdict greatest records =
    (verdict ≡ verdicts.Full) ⊎ (most ≤ length (renewed greatest records))

-- the file has one record more, that of the mark, which was fresh to those before
pub record IsTaken {K : Type 0} (d : disks.Ghosts K) (old new : JournalOf K) (now : ℕ)
    (mark : Mark) : Type 0 where
  pub base : List (List ℕ)
  pub based : Based (most ≤ old.count) (greatest_at old now) (records_of d old.disk) base
  pub records : records_of d new.disk ≡ base ++ body_of mark (greatest_at old now) ∷ []
  pub durable : Only (d.contents new.disk) (d.may_leave new.disk)
  pub fresh : Fresh mark base
  -- and it is the mark that a reader of the record finds
  pub back : mark_in (body_of mark (greatest_at old now)) ≡ mark

-- the marks that a cache takes of records, each with the number of its first one: those that are
-- recent
abbrev pub recent_marks : ℕ → ℕ → List TakenMark → List (List ℕ) → List TakenMark
recent_marks greatest number taken [] = taken
recent_marks greatest number taken (body ∷ more) =
    recent_marks greatest (number + 1) (with_taken
    (cache_verdict (length taken + 1) greatest taken (mark_in body)) taken
    (record { mark = mark_in body; place = number })) more

-- a cache that knows the marks of these records
pub record Filled (cache : Cached) (records : List (List ℕ)) : Type 0 where
  pub holds : Holds cache (recent_marks cache.greatest 0 [] records)
  pub covers : Covers cache.greatest (recent_marks cache.greatest 0 [] records) records
  pub all : kept_of cache.greatest (recent_marks cache.greatest 0 [] records)
      ≡ recent_marks cache.greatest 0 [] records
  pub few : length (recent_marks cache.greatest 0 [] records) ≤ cache.capacity
