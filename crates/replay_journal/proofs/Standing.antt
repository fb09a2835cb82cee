-- How what a journal keeps goes on.
use Rattle.std.proofs.Common.{◌≡◌, inl, inr, true, false, refl, ℕ, ◌+◌, ◌≤◌, ◌<◌, List, [], ◌∷◌, ◌++◌, length, sym, ◌∙◌, ap, subst, arith, length-append}
use Rattle.gss_base.specs.declared.mark.Mark.{Mark}
use Rattle.replay_cache.specs.declared.cache.TakenMark.{TakenMark}
use Rattle.replay_cache.specs.Taking.{Cached, Holds, skew}
use Rattle.replay_journal.specs.declared.disk.Disk as disks
use Rattle.replay_journal.specs.Disks.{Only, LeavesOnly}
use Rattle.replay_journal.specs.Files.{Rests, mark_in, greatest_in, counted, renewed}
use Rattle.replay_journal.specs.Journals.{JournalOf, Leaves, Stands, records_of, recent_marks, Filled, AllNear, HasBase, IsRefreshed, IsRenewal, IsRenewed}
use Rattle.replay_journal.specs.Runs.{Keeps}
use Rattle.replay_journal.specs.declared.journal.JournalVerdict.{JournalVerdict}
use Rattle.replay_journal.specs.declared.journal.JournalVerdict.TheVariants.{Taken, DiskFault}
use Rattle.replay_journal.proofs.Blocks.{counted-rests}
use Rattle.replay_journal.proofs.Marks.{covers-later, covers-taken}
use Rattle.replay_journal.proofs.Scanning.{near-more}
use Rattle.replay_journal.proofs.Renewing.{covers-renewed}
use Rattle.replay_journal.proofs.Moments.{started}

pub near-later : (old new : ℕ) (records : List (List ℕ)) → old ≤ new → AllNear old records → AllNear new records
near-later old new [] le near = tt
near-later old new (b ∷ more) le near = (omega (arith, le, near.0), omega (arith, le, near.1), near-later old new more le near.2)

-- nothing was asked of the disk
pub still : {K : Type 0} (d : disks.Ghosts K) (disk : K) (P : List ℕ → Type 0) → ((c : List ℕ) → d.left_since disk (d.moment disk) c → d.may_leave disk c)
    → Only (d.contents disk) (d.may_leave disk) → P (d.contents disk) → LeavesOnly d.moment d.left_since disk disk P
still d disk P now only has = started d.moment d.left_since disk P (λ c left. subst P (sym (only c (now c left))) has)

-- the greatest moment rose
pub stands-later : {K : Type 0} (d : disks.Ghosts K) (disk : K) (old new : Cached) (count : ℕ) → old.greatest ≤ new.greatest → ((taken : List TakenMark) → Holds old taken → Holds new taken)
    → Stands d disk old count → Stands d disk new count
stands-later d disk old new count le holds stands = record {
  rests = stands.rests;
  durable = stands.durable;
  counts = stands.counts;
  taken = stands.taken;
  holds = holds stands.taken stands.holds;
  covers = covers-later old.greatest new.greatest stands.taken (records_of d disk) le stands.covers;
  near = near-later old.greatest new.greatest (records_of d disk) le stands.near;
}

-- one record more
pub stands-more : {K : Type 0} (d : disks.Ghosts K) (disk later : K) (old new : Cached) (count : ℕ) (body : List ℕ) (mark : Mark) → old.greatest ≤ new.greatest → mark_in body ≡ mark
    → mark.at ≤ old.greatest + skew → greatest_in body ≡ old.greatest → Rests (records_of d disk ++ body ∷ []) (d.contents later) → Only (d.contents later) (d.may_leave later)
    → ((taken : List TakenMark) → Holds old taken → Holds new (taken ++ record { mark = mark; place = count } ∷ []))
    → Stands d disk old count → Stands d later new (count + 1)
stands-more d disk later old new count body mark le is ahead at rests only holds stands =
    let records : counted (d.contents later) ≡ records_of d disk ++ body ∷ [] = counted-rests (records_of d disk ++ body ∷ []) (d.contents later) rests in
    record {
      rests = subst (λ (r : List (List ℕ)). Rests r (d.contents later)) (sym records) rests;
      durable = only;
      counts = omega (arith, stands.counts, ap length records, length-append (records_of d disk) (body ∷ []));
      taken = stands.taken ++ record { mark = mark; place = count } ∷ [];
      holds = holds stands.taken stands.holds;
      covers = rw records (covers-later old.greatest new.greatest (stands.taken ++ record { mark = mark; place = count } ∷ []) (records_of d disk ++ body ∷ []) le
          (covers-taken old.greatest stands.taken (records_of d disk) body mark count is stands.covers));
      near = rw records (near-more old.greatest new.greatest (records_of d disk) body le (subst (λ (m : Mark). m.at ≤ new.greatest + skew) (sym is) (omega (arith, ahead, le))) (omega (arith, at, le)) stands.near);
    }

-- a journal that was just opened, on a file that may be made anew
pub stands-opened : {K : Type 0} (d : disks.Ghosts K) (due : Type 0) (old disk : K) (cache : Cached) (count : ℕ) (records : List (List ℕ)) → records_of d old ≡ records
    → IsRefreshed d due old disk cache.greatest count → Filled cache records → Stands d disk cache count
stands-opened d due old disk cache count records is refreshed filled = record {
  rests = refreshed.rests;
  durable = refreshed.durable;
  counts = refreshed.counts;
  taken = recent_marks cache.greatest 0 [] records;
  holds = filled.holds;
  covers = refreshed.covers (recent_marks cache.greatest 0 [] records) (rw is filled.covers);
  near = refreshed.near;
}

-- a file was made anew
pub stands-renewed : {K : Type 0} (d : disks.Ghosts K) (old disk : K) (cache : Cached) (before count : ℕ) → skew < cache.greatest → IsRenewed d old disk cache.greatest count → Stands d old cache before → Stands d disk cache count
stands-renewed d old disk cache before count late renewed_ stands =
    let records : records_of d disk ≡ renewed cache.greatest (records_of d old) = counted-rests (renewed cache.greatest (records_of d old)) (d.contents disk) renewed_.rests in
    record {
      rests = subst (λ (r : List (List ℕ)). Rests r (d.contents disk)) (sym records) renewed_.rests;
      durable = renewed_.durable;
      counts = renewed_.counts ∙ ap length (sym records);
      taken = stands.taken;
      holds = stands.holds;
      covers = rw records (covers-renewed cache.greatest stands.taken (records_of d old) late renewed_.nobody stands.covers);
      near = rw records renewed_.near;
    }

-- the disk was only read
pub stands-read : {K : Type 0} (d : disks.Ghosts K) (old disk : K) (cache : Cached) (count : ℕ) → d.contents disk ≡ d.contents old → Only (d.contents disk) (d.may_leave disk) → Stands d old cache count → Stands d disk cache count
stands-read d old disk cache count same only stands = record {
  rests = rw same stands.rests;
  durable = only;
  counts = rw same stands.counts;
  taken = stands.taken;
  holds = stands.holds;
  covers = rw same stands.covers;
  near = rw same stands.near;
}

-- a file that wasn't made anew, and that was only read
pub refreshed-read : {K : Type 0} (d : disks.Ghosts K) (due : Type 0) (old new : K) (greatest count : ℕ) → d.contents new ≡ d.contents old → Rests (records_of d old) (d.contents old) → Only (d.contents new) (d.may_leave new)
    → count ≡ length (records_of d old) → AllNear greatest (records_of d old) → IsRefreshed d due old new greatest count
refreshed-read d due old new greatest count same rests only counts near = record {
  based = inl (rw same refl);
  rests = rw same rests;
  durable = only;
  counts = rw same counts;
  near = rw same near;
  covers = λ taken covers. rw same covers;
}

pub refreshed-anew : {K : Type 0} (d : disks.Ghosts K) (due : Type 0) (old new : K) (greatest count : ℕ) → due → skew < greatest → IsRenewed d old new greatest count → IsRefreshed d due old new greatest count
refreshed-anew d due old new greatest count is late anew =
    let records : records_of d new ≡ renewed greatest (records_of d old) = counted-rests (renewed greatest (records_of d old)) (d.contents new) anew.rests in
    record {
      based = inr (is, subst (λ (r : List (List ℕ)). IsRenewal greatest (records_of d old) r) (sym records) anew.renewal);
      rests = subst (λ (r : List (List ℕ)). Rests r (d.contents new)) (sym records) anew.rests;
      durable = anew.durable;
      counts = anew.counts ∙ ap length (sym records);
      near = rw records anew.near;
      covers = λ taken covers. rw records (covers-renewed greatest taken (records_of d old) late anew.nobody covers);
    }

pub base-here : (due : Type 0) (greatest : ℕ) (records : List (List ℕ)) (c : List ℕ) → Rests records c → HasBase due greatest records c
base-here due greatest records c rests = record { base = records; based = inl refl; rests = rests }

-- a call that asks nothing of the disk
pub still-leaves : {K : Type 0} (d : disks.Ghosts K) (j : JournalOf K) (now : ℕ) (mark : Mark) → ((c : List ℕ) → d.left_since j.disk (d.moment j.disk) c → d.may_leave j.disk c) → Stands d j.disk j.cache j.count
    → LeavesOnly d.moment d.left_since j.disk j.disk (Leaves d j now mark)
still-leaves d j now mark only stands =
    still d j.disk (Leaves d j now mark) only stands.durable (record { base = records_of d j.disk; based = inl refl; rests = inl stands.rests })

pub quiet-keeps : {K : Type 0} (d : disks.Ghosts K) (old new : JournalOf K) (now : ℕ) (mark : Mark) (answer : JournalVerdict) → old.closed ≡ false → new.disk ≡ old.disk
    → LeavesOnly d.moment d.left_since old.disk old.disk (Leaves d old now mark) → (answer ≡ Taken → ⊥) → (answer ≡ DiskFault → ⊥) → Keeps d old (record { now = now; mark = mark; answer = answer }) new
quiet-keeps d old new now mark answer open_ same images no_taken no_fault = record {
  tells = ap d.tells same;
  unclosed = λ is. open_;
  images = λ is. subst (λ (k : _). LeavesOnly d.moment d.left_since old.disk k (Leaves d old now mark)) (sym same) images;
  taken = λ is. absurd (no_taken is);
  same = λ a b. ap d.contents same;
  shut = λ is. absurd (no_fault is);
  still = λ shut. absurd (both (sym shut ∙ open_));
}
  where
    both : true ≡ false → ⊥
    both is = cc
