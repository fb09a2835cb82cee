-- A crash at any moment of several calls, from what each call says.
use Rattle.std.proofs.Common.{inl, inr, ⊎_elim, ℕ, List, arith}
use Rattle.replay_journal.specs.Disks.{Elapses, LeavesOnly}

module _ {K : Type 0} (moment : K → ℕ) (left_since : K → ℕ → List ℕ → Type 0) where
  -- no call yet
  pub started : (disk : K) (P : List ℕ → Type 0) → ((c : List ℕ) → left_since disk (moment disk) c → P c) → LeavesOnly moment left_since disk disk P
  started disk P now = record { later = omega arith; each = now; before = λ t c le left. inl left }

  -- one call more
  pub goes_on : (first mid last : K) (P new : List ℕ → Type 0) → LeavesOnly moment left_since first mid P
      → Elapses (moment mid) (moment last) (left_since mid) (left_since last) new → ((c : List ℕ) → new c → P c) → LeavesOnly moment left_since first last P
  goes_on first mid last P new so_far time has = record {
    later = omega (arith, so_far.later, time.later);
    each = λ c left. ⊎_elim (λ past. so_far.each c past) (λ now. has c now) (time.nothing_else (moment first) c so_far.later left);
    before = λ t c le left. ⊎_elim (λ past. so_far.before t c le past) (λ now. inr (has c now)) (time.nothing_else t c (omega (arith, le, so_far.later)) left);
  }

  -- calls after other calls
  pub goes_then : (first mid last : K) (P Q R : List ℕ → Type 0) → LeavesOnly moment left_since first mid P → LeavesOnly moment left_since mid last Q
      → ((c : List ℕ) → P c → R c) → ((c : List ℕ) → Q c → R c) → LeavesOnly moment left_since first last R
  goes_then first mid last P Q R one two from_one from_two = record {
    later = omega (arith, one.later, two.later);
    each = λ c left. ⊎_elim (λ past. from_one c (one.each c past)) (λ now. from_two c now) (two.before (moment first) c one.later left);
    before = λ t c le left. ⊎_elim
        (λ past. ⊎_elim (λ older. inl older) (λ now. inr (from_one c now)) (one.before t c le past))
        (λ now. inr (from_two c now)) (two.before t c (omega (arith, le, one.later)) left);
  }

  -- less is said
  pub goes_as : (first last : K) (P R : List ℕ → Type 0) → LeavesOnly moment left_since first last P → ((c : List ℕ) → P c → R c) → LeavesOnly moment left_since first last R
  goes_as first last P R one as_ = record {
    later = one.later;
    each = λ c left. as_ c (one.each c left);
    before = λ t c le left. ⊎_elim (λ older. inl older) (λ now. inr (as_ c now)) (one.before t c le left);
  }
