-- What holds of marks that are kept together.
use Rattle.std.proofs.Common.{◌≡◌, inl, inr, true, false, ℕ, ◌+◌, ◌≤◌, ◌<◌, max, List, [], ◌∷◌, ◌++◌, length, map, drop, refl, sym, ◌∙◌, ap, subst, arith, length-append, append_assoc}
use Rattle.std.proofs.lemmas.List.{append-nil}
use Rattle.gss_base.specs.declared.mark.Mark.{Mark}
use Rattle.replay_cache.specs.declared.cache.TakenMark.{TakenMark}
use Rattle.replay_cache.specs.declared.cache.CacheVerdict.{CacheVerdict}
use Rattle.replay_cache.specs.declared.cache.CacheVerdict.TheVariants.{Taken, Stale, Repeat, Full}
use Rattle.replay_cache.specs.Taking.{Cached, Holds, skew, cache_verdict, with_taken}
use Rattle.replay_journal.specs.declared.disk.Disk as disks
use Rattle.replay_journal.specs.declared.judging.Request.{Request}
use Rattle.replay_journal.specs.declared.journal.JournalVerdict.{JournalVerdict}
use Rattle.replay_journal.specs.declared.journal.JournalVerdict.TheVariants as told
use Rattle.replay_journal.specs.Disks.{Only, LeavesOnly}
use Rattle.replay_journal.specs.Files.{AreBehind, Sized, Rests, blocks, body_of, counted}
use Rattle.replay_journal.specs.Groups.{Due, IsWritten, AreWritten, bodies_of, due_by, place_by, verdict_on, taken_by, verdicts_on, dues_on, taken_on, greatest_on}
use Rattle.replay_journal.specs.Journals.{JournalOf, BeforeOrAll, Covers, AllNear, Stands, kept_by, records_of}
use Rattle.replay_journal.specs.Runs.{AllFresh, KeepsTogether, calls_of, all_told, taken_marks, marks_of}
use Rattle.replay_journal.proofs.Blocks.{counted-rests}
use Rattle.replay_journal.proofs.Marks.{covers-later, covers-taken, taken-fresh, taken-ahead}
use Rattle.replay_journal.proofs.Scanning.{near-more}
use Rattle.replay_journal.proofs.Standing.{near-later, still}

-- ---- the answers

-- of these answers those that are Taken are of the marks that are due
pub answers-taken : (capacity greatest : ℕ) (taken : List TakenMark) (place : ℕ) (asked : List Request)
    → taken_marks (calls_of asked (map kept_by (verdicts_on capacity greatest taken place asked))) ≡ marks_of (dues_on capacity greatest taken place asked)
answers-taken capacity greatest taken place [] = refl
answers-taken capacity greatest taken place (one ∷ more) =
    here (verdict_on capacity greatest taken one) one (max greatest one.now)
    (calls_of more (map kept_by (verdicts_on capacity (max greatest one.now) (taken_by capacity greatest taken place one) (place_by (verdict_on capacity greatest taken one) place) more)))
    (dues_on capacity (max greatest one.now) (taken_by capacity greatest taken place one) (place_by (verdict_on capacity greatest taken one) place) more)
    (answers-taken capacity (max greatest one.now) (taken_by capacity greatest taken place one) (place_by (verdict_on capacity greatest taken one) place) more)
  where
    here : (verdict : CacheVerdict) (one : Request) (at : ℕ) (calls : List _) (dues : List Due) → taken_marks calls ≡ marks_of dues
        → taken_marks (record { now = one.now; mark = one.mark; answer = kept_by verdict } ∷ calls) ≡ marks_of (due_by verdict (record { mark = one.mark; greatest = at }) dues)
    here Taken one at calls dues rest = ap (λ (l : List Mark). one.mark ∷ l) rest
    here (Stale g) one at calls dues rest = rest
    here (Repeat p) one at calls dues rest = rest
    here Full one at calls dues rest = rest

pub none-taken : (asked : List Request) → taken_marks (all_told told.DiskFault asked) ≡ []
none-taken [] = refl
none-taken (one ∷ more) = none-taken more

-- ---- the records

-- a cache that knows the marks of records, and of these after them
pub record Knows (greatest : ℕ) (taken : List TakenMark) (records : List (List ℕ)) : Type 0 where
  pub covers : Covers greatest taken records
  pub near : AllNear greatest records

knows-later : (old new : ℕ) (taken : List TakenMark) (records : List (List ℕ)) → old ≤ new → Knows old taken records → Knows new taken records
knows-later old new taken records le knows = record { covers = covers-later old new taken records le knows.covers; near = near-later old new records le knows.near }

knows-taken : (capacity greatest : ℕ) (taken : List TakenMark) (place : ℕ) (mark : Mark) (records : List (List ℕ)) → cache_verdict capacity greatest taken mark ≡ Taken
    → IsWritten (record { mark = mark; greatest = greatest }) → Knows greatest taken records
    → Knows greatest (taken ++ record { mark = mark; place = place } ∷ []) (records ++ body_of mark greatest ∷ [])
knows-taken capacity greatest taken place mark records is written knows = record {
  covers = covers-taken greatest taken records (body_of mark greatest) mark place written.back knows.covers;
  near = near-more greatest greatest records (body_of mark greatest) (omega arith)
      (subst (λ (m : Mark). m.at ≤ greatest + skew) (sym written.back) (taken-ahead capacity greatest taken mark is)) (omega (arith, written.told)) knows.near;
}

-- what the first verdict comes to
first-fresh : (verdict : CacheVerdict) (capacity greatest : ℕ) (taken : List TakenMark) (place : ℕ) (mark : Mark) (records : List (List ℕ)) (dues : List Due) → cache_verdict capacity greatest taken mark ≡ verdict
    → Knows greatest taken records → AreWritten (due_by verdict (record { mark = mark; greatest = greatest }) dues)
    → ((next : List (List ℕ)) → Knows greatest (with_taken verdict taken (record { mark = mark; place = place })) next → AreWritten dues → AllFresh dues next)
    → AllFresh (due_by verdict (record { mark = mark; greatest = greatest }) dues) records
first-fresh Taken capacity greatest taken place mark records dues is knows written rest = (
  taken-fresh capacity greatest taken mark records knows.covers knows.near is,
  written.0.back,
  rest (records ++ body_of mark greatest ∷ []) (knows-taken capacity greatest taken place mark records is written.0 knows) written.1,
)
first-fresh (Stale g) capacity greatest taken place mark records dues is knows written rest = rest records knows written
first-fresh (Repeat p) capacity greatest taken place mark records dues is knows written rest = rest records knows written
first-fresh Full capacity greatest taken place mark records dues is knows written rest = rest records knows written

-- each that is due is fresh to the records, and to those before its own
pub all-fresh : (capacity greatest : ℕ) (taken : List TakenMark) (place : ℕ) (asked : List Request) (records : List (List ℕ)) → Knows greatest taken records
    → AreWritten (dues_on capacity greatest taken place asked) → AllFresh (dues_on capacity greatest taken place asked) records
all-fresh capacity greatest taken place [] records knows written = tt
all-fresh capacity greatest taken place (one ∷ more) records knows written =
    first-fresh (verdict_on capacity greatest taken one) capacity (max greatest one.now) taken place one.mark records
    (dues_on capacity (max greatest one.now) (taken_by capacity greatest taken place one) (place_by (verdict_on capacity greatest taken one) place) more)
    refl (knows-later greatest (max greatest one.now) taken records (omega arith) knows) written
    (λ next then after. all-fresh capacity (max greatest one.now) (taken_by capacity greatest taken place one) (place_by (verdict_on capacity greatest taken one) place) more next then after)

first-knows : (verdict : CacheVerdict) (capacity greatest last : ℕ) (taken after : List TakenMark) (place : ℕ) (mark : Mark) (records : List (List ℕ)) (dues : List Due) → cache_verdict capacity greatest taken mark ≡ verdict
    → Knows greatest taken records → AreWritten (due_by verdict (record { mark = mark; greatest = greatest }) dues)
    → ((next : List (List ℕ)) → Knows greatest (with_taken verdict taken (record { mark = mark; place = place })) next → AreWritten dues → Knows last after (next ++ bodies_of dues))
    → Knows last after (records ++ bodies_of (due_by verdict (record { mark = mark; greatest = greatest }) dues))
first-knows Taken capacity greatest last taken after place mark records dues is knows written rest =
    subst (λ (r : List (List ℕ)). Knows last after r) (append_assoc records (body_of mark greatest ∷ []) (bodies_of dues))
    (rest (records ++ body_of mark greatest ∷ []) (knows-taken capacity greatest taken place mark records is written.0 knows) written.1)
first-knows (Stale g) capacity greatest last taken after place mark records dues is knows written rest = rest records knows written
first-knows (Repeat p) capacity greatest last taken after place mark records dues is knows written rest = rest records knows written
first-knows Full capacity greatest last taken after place mark records dues is knows written rest = rest records knows written

-- and the cache knows them all afterwards
pub all-known : (capacity greatest : ℕ) (taken : List TakenMark) (place : ℕ) (asked : List Request) (records : List (List ℕ)) → Knows greatest taken records
    → AreWritten (dues_on capacity greatest taken place asked)
    → Knows (greatest_on greatest asked) (taken_on capacity greatest taken place asked) (records ++ bodies_of (dues_on capacity greatest taken place asked))
all-known capacity greatest taken place [] records knows written = subst (λ (r : List (List ℕ)). Knows greatest taken r) (sym (append-nil records)) knows
all-known capacity greatest taken place (one ∷ more) records knows written =
    first-knows (verdict_on capacity greatest taken one) capacity (max greatest one.now) (greatest_on (max greatest one.now) more) taken
    (taken_on capacity (max greatest one.now) (taken_by capacity greatest taken place one) (place_by (verdict_on capacity greatest taken one) place) more) place one.mark records
    (dues_on capacity (max greatest one.now) (taken_by capacity greatest taken place one) (place_by (verdict_on capacity greatest taken one) place) more)
    refl (knows-later greatest (max greatest one.now) taken records (omega arith) knows) written
    (λ next then after. all-known capacity (max greatest one.now) (taken_by capacity greatest taken place one) (place_by (verdict_on capacity greatest taken one) place) more next then after)

pub later-on : (greatest : ℕ) (asked : List Request) → greatest ≤ greatest_on greatest asked
later-on greatest [] = omega arith
later-on greatest (one ∷ more) = omega (arith, later-on (max greatest one.now) more)

-- the greatest moment rose, and no record came: more marks are known than have records
pub known-more : (capacity greatest : ℕ) (taken : List TakenMark) (place : ℕ) (asked : List Request) (records : List (List ℕ)) → dues_on capacity greatest taken place asked ≡ [] → Knows greatest taken records
    → Knows (greatest_on greatest asked) (taken_on capacity greatest taken place asked) records
known-more capacity greatest taken place asked records none knows =
    subst (λ (r : List (List ℕ)). Knows (greatest_on greatest asked) (taken_on capacity greatest taken place asked) r)
    (ap (λ (l : List Due). records ++ bodies_of l) none ∙ append-nil records)
    (all-known capacity greatest taken place asked records knows (subst AreWritten (sym none) tt))

pub sized-dues : (dues : List Due) → AreWritten dues → Sized (bodies_of dues)
sized-dues [] written = tt
sized-dues (due ∷ dues) written = (written.0.sized, sized-dues dues written.1)

pub length-bodies : (dues : List Due) → length (bodies_of dues) ≡ length dues
length-bodies [] = refl
length-bodies (due ∷ dues) = omega (arith, length-bodies dues)

-- nothing was written, so none is due
pub no-dues : (before after : List ℕ) (dues : List Due) → before ≡ [] → after ≡ before ++ blocks (bodies_of dues) → length after ≡ 0 → dues ≡ []
no-dues before after [] none is empty = refl
no-dues before after (due ∷ more) none is empty =
    let rest : List ℕ = body_of due.mark due.greatest ++ blocks (bodies_of more) in
    let whole : after ≡ before ++ 0x4a ∷ rest = is in
    absurd (omega (arith, empty, ap length whole, length-append before (0x4a ∷ rest)))

-- what was written behind the first gate, with a closed gate at the end
pub behind-dues : (dues : List Due) (octets : List ℕ) → octets ≡ blocks (bodies_of dues) → 0 < length octets → AreWritten dues → AreBehind (bodies_of dues) (drop 1 (octets ++ 0 ∷ []))
behind-dues [] octets is some written = absurd (omega (arith, some, ap length is))
behind-dues (due ∷ dues) octets is some written = record {
  inner = body_of due.mark due.greatest ++ blocks (bodies_of dues);
  first = refl;
  last = ap (λ (l : List ℕ). drop 1 (l ++ 0 ∷ [])) is;
  sized = sized-dues (due ∷ dues) written;
}

-- the file has the new records
pub stands-all : {K : Type 0} (d : disks.Ghosts K) (disk later : K) (old new : Cached) (count count' : ℕ) (asked : List Request) (taken : List TakenMark) → (dues : List Due) → count' ≡ count + length dues
    → Holds new taken → Knows new.greatest taken (records_of d disk ++ bodies_of dues) → Rests (records_of d disk ++ bodies_of dues) (d.contents later) → Only (d.contents later) (d.may_leave later)
    → Stands d disk old count → Stands d later new count'
stands-all d disk later old new count count' asked taken dues counts holds knows rests only stands =
    let records : counted (d.contents later) ≡ records_of d disk ++ bodies_of dues = counted-rests (records_of d disk ++ bodies_of dues) (d.contents later) rests in
    record {
      rests = subst (λ (r : List (List ℕ)). Rests r (d.contents later)) (sym records) rests;
      durable = only;
      counts = omega (arith, counts, stands.counts, ap length records, length-append (records_of d disk) (bodies_of dues), length-bodies dues);
      taken = taken;
      holds = holds;
      covers = rw records knows.covers;
      near = rw records knows.near;
    }

-- the file is as it was, and the cache knows more
pub stands-known : {K : Type 0} (d : disks.Ghosts K) (disk : K) (old new : Cached) (count : ℕ) (taken : List TakenMark) → Holds new taken → Knows new.greatest taken (records_of d disk) → Stands d disk old count → Stands d disk new count
stands-known d disk old new count taken holds knows stands = record {
  rests = stands.rests;
  durable = stands.durable;
  counts = stands.counts;
  taken = taken;
  holds = holds;
  covers = knows.covers;
  near = knows.near;
}

-- ---- a call of `keep_all`

abbrev pub dues_for : {K : Type 0} → JournalOf K → List TakenMark → List Request → List Due
dues_for old taken asked = dues_on old.cache.capacity old.cache.greatest taken old.count asked

abbrev pub AreSaid : {K : Type 0} → JournalOf K → List TakenMark → List Request → List JournalVerdict → Type 0
AreSaid old taken asked said = said ≡ map kept_by (verdicts_on old.cache.capacity old.cache.greatest taken old.count asked)

said-marks : {K : Type 0} (old : JournalOf K) (taken : List TakenMark) (asked : List Request) (said : List JournalVerdict) → AreSaid old taken asked said → taken_marks (calls_of asked said) ≡ marks_of (dues_for old taken asked)
said-marks old taken asked said is =
    ap (λ (l : List JournalVerdict). taken_marks (calls_of asked l)) is ∙ answers-taken old.cache.capacity old.cache.greatest taken old.count asked

-- none was due, and nothing was asked of the disk
pub together-quiet : {K : Type 0} (d : disks.Ghosts K) (old new : JournalOf K) (asked : List Request) (said : List JournalVerdict) → old.closed ≡ false → new.disk ≡ old.disk
    → ((c : List ℕ) → d.left_since old.disk (d.moment old.disk) c → d.may_leave old.disk c) → (stands : Stands d old.disk old.cache old.count) → dues_for old stands.taken asked ≡ [] → AreSaid old stands.taken asked said
    → KeepsTogether d old (calls_of asked said) new
together-quiet d old new asked said open_ same now stands none is = record {
  dues = [];
  tells = ap d.tells same;
  unclosed = open_;
  images = subst (λ (k : _). LeavesOnly d.moment d.left_since old.disk k (BeforeOrAll (records_of d old.disk) [])) (sym same)
      (still d old.disk (BeforeOrAll (records_of d old.disk) []) now stands.durable (inl stands.rests));
  fresh = tt;
  outcome = inl (record {
    marks = said-marks old stands.taken asked said is ∙ ap marks_of none;
    records = ap (λ (k : _). records_of d k) same ∙ sym (append-nil (records_of d old.disk));
    durable = subst (λ (k : _). Only (d.contents k) (d.may_leave k)) (sym same) stands.durable;
  });
}

fresh-dues : {K : Type 0} (d : disks.Ghosts K) (old : JournalOf K) (asked : List Request) → (stands : Stands d old.disk old.cache old.count) → AreWritten (dues_for old stands.taken asked)
    → AllFresh (dues_for old stands.taken asked) (records_of d old.disk)
fresh-dues d old asked stands written =
    all-fresh old.cache.capacity old.cache.greatest stands.taken old.count asked (records_of d old.disk) (record { covers = stands.covers; near = stands.near }) written

-- they are on the disk
pub together-kept : {K : Type 0} (d : disks.Ghosts K) (old new : JournalOf K) (asked : List Request) (said : List JournalVerdict) → old.closed ≡ false → d.tells new.disk ≡ d.tells old.disk
    → (stands : Stands d old.disk old.cache old.count) → AreWritten (dues_for old stands.taken asked) → AreSaid old stands.taken asked said
    → LeavesOnly d.moment d.left_since old.disk new.disk (BeforeOrAll (records_of d old.disk) (bodies_of (dues_for old stands.taken asked)))
    → Rests (records_of d old.disk ++ bodies_of (dues_for old stands.taken asked)) (d.contents new.disk) → Only (d.contents new.disk) (d.may_leave new.disk)
    → KeepsTogether d old (calls_of asked said) new
together-kept d old new asked said open_ tells stands written is images rests only = record {
  dues = dues_for old stands.taken asked;
  tells = tells;
  unclosed = open_;
  images = images;
  fresh = fresh-dues d old asked stands written;
  outcome = inl (record {
    marks = said-marks old stands.taken asked said is;
    records = counted-rests (records_of d old.disk ++ bodies_of (dues_for old stands.taken asked)) (d.contents new.disk) rests;
    durable = only;
  });
}

-- the disk failed
pub together-lost : {K : Type 0} (d : disks.Ghosts K) (old new : JournalOf K) (asked : List Request) → old.closed ≡ false → new.closed ≡ true → d.tells new.disk ≡ d.tells old.disk
    → (stands : Stands d old.disk old.cache old.count) → AreWritten (dues_for old stands.taken asked)
    → LeavesOnly d.moment d.left_since old.disk new.disk (BeforeOrAll (records_of d old.disk) (bodies_of (dues_for old stands.taken asked)))
    → KeepsTogether d old (all_told told.DiskFault asked) new
together-lost d old new asked open_ shut tells stands written images = record {
  dues = dues_for old stands.taken asked;
  tells = tells;
  unclosed = open_;
  images = images;
  fresh = fresh-dues d old asked stands written;
  outcome = inr (record { none = none-taken asked; shut = shut });
}
