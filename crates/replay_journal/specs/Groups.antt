-- Marks that are kept together: what a journal says of each, one after the other, and the records
-- that its file gets.
use Rattle.std.specs.Prelude.{◌≡◌, ℕ, ◌+◌, max, List, [], ◌∷◌, ◌++◌, length, map}
use Rattle.gss_base.specs.declared.mark.Mark.{Mark}
use Rattle.replay_cache.specs.declared.cache.TakenMark.{TakenMark}
use Rattle.replay_cache.specs.declared.cache.CacheVerdict.{CacheVerdict}
use Rattle.replay_cache.specs.declared.cache.CacheVerdict.TheVariants.{Taken, Stale, Repeat, Full}
use Rattle.replay_cache.specs.Taking.{Cached, Holds, cache_verdict, with_taken}
use Rattle.replay_journal.specs.declared.judging.Request.{Request}
use Rattle.replay_journal.specs.declared.journal.JournalVerdict.{JournalVerdict}
use Rattle.replay_journal.specs.Files.{blocks, body_of, mark_in, greatest_in}
use Rattle.replay_journal.specs.Journals.{kept_by}

-- a mark that is taken, and the greatest moment then
pub record Due : Type 0 where
  pub mark : Mark
  pub greatest : ℕ

-- the bodies of the records of such marks
abbrev pub bodies_of : List Due → List (List ℕ)
bodies_of [] = []
bodies_of (due ∷ more) = body_of due.mark due.greatest ∷ bodies_of more

-- one more, where this is the verdict on it
abbrev pub due_by : CacheVerdict → Due → List Due → List Due
due_by Taken due more = due ∷ more
due_by (Stale greatest) due more = more
due_by (Repeat place) due more = more
due_by Full due more = more

abbrev pub place_by : CacheVerdict → ℕ → ℕ
place_by Taken place = place + 1
place_by (Stale greatest) place = place
place_by (Repeat place') place = place
place_by Full place = place

-- the verdict on the mark of a request, which may raise the greatest moment
abbrev pub verdict_on : ℕ → ℕ → List TakenMark → Request → CacheVerdict
verdict_on capacity greatest taken one =
    cache_verdict capacity (max greatest one.now) taken one.mark

-- the marks that are taken after a request
abbrev pub taken_by : ℕ → ℕ → List TakenMark → ℕ → Request → List TakenMark
taken_by capacity greatest taken place one = with_taken (verdict_on capacity greatest taken one)
    taken (record { mark = one.mark; place = place })

-- the verdict on each of these, where a mark that is taken is held when the next is judged
abbrev pub verdicts_on : ℕ → ℕ → List TakenMark → ℕ → List Request → List CacheVerdict
verdicts_on capacity greatest taken place [] = []
verdicts_on capacity greatest taken place (one ∷ more) = verdict_on capacity greatest taken one
    ∷ verdicts_on capacity (max greatest one.now) (taken_by capacity greatest taken place one)
    (place_by (verdict_on capacity greatest taken one) place) more

-- those of them that are taken
abbrev pub dues_on : ℕ → ℕ → List TakenMark → ℕ → List Request → List Due
dues_on capacity greatest taken place [] = []
dues_on capacity greatest taken place (one ∷ more) =
    due_by (verdict_on capacity greatest taken one)
    (record { mark = one.mark; greatest = max greatest one.now })
    (dues_on capacity (max greatest one.now) (taken_by capacity greatest taken place one)
    (place_by (verdict_on capacity greatest taken one) place) more)

-- the marks that are taken after them
abbrev pub taken_on : ℕ → ℕ → List TakenMark → ℕ → List Request → List TakenMark
taken_on capacity greatest taken place [] = taken
taken_on capacity greatest taken place (one ∷ more) =
    taken_on capacity (max greatest one.now) (taken_by capacity greatest taken place one)
    (place_by (verdict_on capacity greatest taken one) place) more

-- the greatest moment after them
abbrev pub greatest_on : ℕ → List Request → ℕ
greatest_on greatest [] = greatest
greatest_on greatest (one ∷ more) = greatest_on (max greatest one.now) more

-- a record tells its mark and its greatest moment, in 44 octets
pub record IsWritten (due : Due) : Type 0 where
  pub sized : length (body_of due.mark due.greatest) ≡ 44
  pub back : mark_in (body_of due.mark due.greatest) ≡ due.mark
  pub told : greatest_in (body_of due.mark due.greatest) ≡ due.greatest

abbrev pub AreWritten : List Due → Type 0
AreWritten [] = Unit {0}
AreWritten (due ∷ more) = IsWritten due × AreWritten more

-- of a cache that knew these taken marks these requests were judged: what was said, what was
-- written, and what it knows then
pub record Judged (capacity greatest : ℕ) (taken : List TakenMark) (place : ℕ)
    (asked : List Request) (said said' : List JournalVerdict) (octets octets' : List ℕ)
    (cache : Cached) (place' : ℕ) : Type 0 where
  pub says : said' ≡ said ++ map kept_by (verdicts_on capacity greatest taken place asked)
  pub writes : octets' ≡ octets ++ blocks (bodies_of (dues_on capacity greatest taken place asked))
  pub holds : Holds cache (taken_on capacity greatest taken place asked)
  pub written : AreWritten (dues_on capacity greatest taken place asked)
  pub next : place' ≡ place + length (dues_on capacity greatest taken place asked)
