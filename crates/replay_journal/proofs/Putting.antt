-- What a crash leaves of a file that is made anew and gets one record more.
use Rattle.std.proofs.Common.{◌≡◌, inl, inr, ℕ, ◌-◌, ◌≤◌, true, List, [], ◌∷◌, ◌++◌, length, filter, refl, sym, ◌∙◌, ap, subst, arith}
use Rattle.std.proofs.lemmas.Bool.{le-leb}
use Rattle.replay_cache.specs.Taking.{skew}
use Rattle.replay_journal.specs.declared.disk.Disk as disks
use Rattle.gss_base.specs.declared.mark.Mark.{Mark}
use Rattle.replay_journal.specs.Files.{body_of, mark_in, is_recent_body, renewed}
use Rattle.replay_journal.specs.Journals.{JournalOf, BeforeOrAfter, Based, HasBase, HasMore, IsPut, IsTaken, most, greatest_at, records_of}

pub more-of : (due : Type 0) (greatest : ℕ) (records : List (List ℕ)) (body c : List ℕ) → HasBase due greatest records c → HasMore due greatest records body c
more-of due greatest records body c has = record { base = has.base; based = has.based; rests = inl has.rests }

pub more-on : (due : Type 0) (greatest : ℕ) (records base : List (List ℕ)) (body c : List ℕ) → Based due greatest records base → BeforeOrAfter base body c → HasMore due greatest records body c
more-on due greatest records base body c based rests = record { base = base; based = based; rests = rests }

based-due : (due : Type 0) (greatest : ℕ) (records base : List (List ℕ)) → due → Based (Unit {0}) greatest records base → Based due greatest records base
based-due due greatest records base is (inl same) = inl same
based-due due greatest records base is (inr renewal) = inr (is, renewal.1)

pub base-due : (due : Type 0) (greatest : ℕ) (records : List (List ℕ)) → due → (c : List ℕ) → HasBase (Unit {0}) greatest records c → HasBase due greatest records c
base-due due greatest records is c has = record { base = has.base; based = based-due due greatest records has.base is has.based; rests = has.rests }

-- a mark that was put into a file that had room, or was made anew
pub taken-put : {K : Type 0} (d : disks.Ghosts K) (old mid new : JournalOf K) (now : ℕ) (mark : Mark) → mid.cache.greatest ≡ old.cache.greatest → now ≤ old.cache.greatest
    → Based (most ≤ old.count) old.cache.greatest (records_of d old.disk) (records_of d mid.disk) → IsPut d mid new mark → IsTaken d old new now mark
taken-put d old mid new now mark same raised based put =
    let there : old.cache.greatest ≡ greatest_at old now = omega (arith, raised) in
    let greatest : mid.cache.greatest ≡ greatest_at old now = omega (arith, same, raised) in
    record {
      base = records_of d mid.disk;
      based = subst (λ (n : ℕ). Based (most ≤ old.count) n (records_of d old.disk) (records_of d mid.disk)) there based;
      records = put.records ∙ ap (λ (n : ℕ). records_of d mid.disk ++ body_of mark n ∷ []) greatest;
      durable = put.durable;
      fresh = put.fresh;
      back = ap (λ (n : ℕ). mark_in (body_of mark n)) (sym greatest) ∙ put.back;
    }

-- the same, where the greatest moment rose before
pub taken-later : {K : Type 0} (d : disks.Ghosts K) (old mid new : JournalOf K) (now : ℕ) (mark : Mark) → mid.disk ≡ old.disk → mid.count ≡ old.count → greatest_at mid now ≡ greatest_at old now
    → IsTaken d mid new now mark → IsTaken d old new now mark
taken-later d old mid new now mark disk count greatest taken = record {
  base = taken.base;
  based = subst (λ (n : ℕ). Based (most ≤ old.count) n (records_of d old.disk) taken.base) greatest
      (subst (λ (k : ℕ). Based (most ≤ k) (greatest_at mid now) (records_of d old.disk) taken.base) count (subst (λ (k : _). Based (most ≤ mid.count) (greatest_at mid now) (records_of d k) taken.base) disk taken.based));
  records = taken.records ∙ ap (λ (n : ℕ). taken.base ++ body_of mark n ∷ []) greatest;
  durable = taken.durable;
  fresh = taken.fresh;
  back = ap (λ (n : ℕ). mark_in (body_of mark n)) (sym greatest) ∙ taken.back;
}

-- in the first 300 seconds nothing is old
all-recent : (greatest : ℕ) (records : List (List ℕ)) → greatest ≤ skew → filter (is_recent_body greatest) records ≡ records
all-recent greatest [] early = refl
all-recent greatest (b ∷ more) early =
    let near : is_recent_body greatest b ≡ true = le-leb (greatest - (mark_in b).at) skew (omega (arith, early)) in
    rw (near, all-recent greatest more early) refl

pub early-full : (greatest : ℕ) (records : List (List ℕ)) → greatest ≤ skew → most ≤ length records → most ≤ length (renewed greatest records)
early-full greatest records early many = omega (arith, many, ap length (all-recent greatest records early))
