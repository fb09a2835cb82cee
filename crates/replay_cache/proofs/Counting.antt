-- The turns and times of a cache as the greatest moment rises and marks are kept, over plain lists.
use Rattle.std.proofs.Common.{◌≡◌, ℕ, ◌+◌, ◌-◌, ◌<◌, ◌≤◌, Bool, true, false, ◌&&◌, nat_lt, nat_le, if◌then◌else◌, List, length, set, refl, sym, ◌∙◌, ap, inl, inr, arith, get_or-set_same, get_or-set_other, length-set}
use Rattle.std.proofs.lemmas.Bool.{cases_Bool, cases_eq, cases_lt, le-leb, lt-leb, leb-true}
use Rattle.replay_cache.specs.declared.cells.Cell.{Cell}
use Rattle.replay_cache.specs.Taking.{skew}
use Rattle.replay_cache.specs.Tally.{tally, late}
use Rattle.replay_cache.specs.Heap.{Bag}
use Rattle.replay_cache.specs.Cells.{no_cell, cell_at, is_held, turn_of, next_turn}
use Rattle.replay_cache.specs.Held.{IsCounted}
use Rattle.replay_cache.proofs.Tallying.{tally-set, tally-agree, tally-stricter}
use Rattle.replay_cache.proofs.Indexing.{held-before}

and_no_right : (a b : Bool) → b ≡ false → (a && b) ≡ false
and_no_right true b fails = fails
and_no_right false b fails = refl

-- a cell whose time is recent at the later moment is held at both or at neither
same-recent : (old new moment : ℕ) (cell : Cell) → old ≤ new → new - skew ≤ moment
    → (is_held new cell && nat_le moment cell.at) ≡ (is_held old cell && nat_le moment cell.at)
same-recent old new moment cell le floor =
    elim (cases_lt cell.at moment) [
      | inl before ↦
          rw (lt-leb moment cell.at before) (and_no_right (is_held new cell) false refl ∙ sym (and_no_right (is_held old cell) false refl))
      | inr from ↦
          rw (le-leb (new - cell.at) skew (omega (arith, from, floor)), le-leb (old - cell.at) skew (omega (arith, from, floor, le))) refl
    ]

-- a held cell is recent
recent-held : (greatest : ℕ) (cell : Cell) → (is_held greatest cell && nat_le (greatest - skew) cell.at) ≡ is_held greatest cell
recent-held greatest cell =
    elim (cases_Bool (nat_le (greatest - cell.at) skew)) [
      | inl near ↦
          rw (near, le-leb (greatest - skew) cell.at (omega (arith, leb-true (greatest - cell.at) skew near))) (and_true (nat_lt 0 cell.nth))
      | inr far ↦ rw far (and_left_no (nat_lt 0 cell.nth) (nat_le (greatest - skew) cell.at))
    ]
  where
    and_true : (b : Bool) → ((b && true) && true) ≡ (b && true)
    and_true true = refl
    and_true false = refl

    and_left_no : (a b : Bool) → ((a && false) && b) ≡ (a && false)
    and_left_no true b = refl
    and_left_no false b = refl

-- there are as many times as held marks
pub times-held : (capacity greatest taken : ℕ) (cells : List Cell) (times : Bag) → IsCounted capacity greatest taken cells times
    → length times.times ≡ tally (is_held greatest) cells
times-held capacity greatest taken cells times is =
    sym is.recent ∙ is.counts (greatest - skew) (omega arith)
    ∙ tally-agree (λ cell. is_held greatest cell && nat_le (greatest - skew) cell.at) (is_held greatest) (recent-held greatest) cells

-- a later moment, with the times before it forgotten
pub counted-later : (capacity old new taken : ℕ) (cells : List Cell) (times less : Bag) → IsCounted capacity old taken cells times
    → old < new → taken ≤ 1000000 → less.room ≡ times.room
    → ((moment : ℕ) → new - skew ≤ moment → late moment less.times ≡ late moment times.times)
    → late (new - skew) less.times ≡ length less.times
    → IsCounted capacity new 0 cells less
counted-later capacity old new taken cells times less is lt small room kept recent = record {
  turns = λ p inside. omega (arith, is.turns p inside, lt, small);
  new = omega arith;
  few = omega (arith, is.few, tally-stricter (is_held new) (is_held old) (λ cell held. held-before old new cell (omega (arith, lt)) held) cells);
  counts = λ moment floor.
      kept moment floor ∙ is.counts moment (omega (arith, floor, lt))
      ∙ sym (tally-agree (λ cell. is_held new cell && nat_le moment cell.at) (λ cell. is_held old cell && nat_le moment cell.at)
      (λ cell. same-recent old new moment cell (omega (arith, lt)) floor) cells);
  recent = recent;
  room = room ∙ is.room;
}

-- one more mark, with the next turn
pub counted-more : (capacity greatest taken : ℕ) (cells : List Cell) (at : ℕ) (cell : Cell) (times more : Bag)
    → IsCounted capacity greatest taken cells times → at < length cells → is_held greatest (cell_at cells at) ≡ false
    → is_held greatest cell ≡ true → turn_of cell ≡ next_turn greatest taken → tally (is_held greatest) cells < capacity
    → more.room ≡ times.room → length more.times ≡ length times.times + 1
    → ((moment : ℕ) → late moment more.times ≡ late moment times.times + (if nat_le moment cell.at then 1 else 0))
    → IsCounted capacity greatest (taken + 1) (set cells at cell) more
counted-more capacity greatest taken cells at cell times more is inside free held turn room room_is length_is counted =
    let count : tally (is_held greatest) (set cells at cell) ≡ tally (is_held greatest) cells + 1 =
    omega (arith, rw (free, held) at (tally-set (is_held greatest) cells at cell no_cell inside)) in
    record {
      turns = λ p within.
          let long : length (set cells at cell) ≡ length cells = length-set cells at cell in
          elim (cases_eq p at) [
            | inl same ↦
                let here : cell_at (set cells at cell) p ≡ cell = ap (cell_at (set cells at cell)) same ∙ get_or-set_same cells at cell no_cell inside in
                omega (arith, ap turn_of here, turn)
            | inr other ↦
                let there : cell_at (set cells at cell) p ≡ cell_at cells p = get_or-set_other cells at p cell no_cell other in
                omega (arith, ap turn_of there, is.turns p (omega (arith, within, long)))
          ];
      new = omega (arith, count, is.new);
      few = omega (arith, count, room);
      counts = λ moment floor.
          let was : (is_held greatest (cell_at cells at) && nat_le moment (cell_at cells at).at) ≡ false = rw free refl in
          let step : tally (λ c. is_held greatest c && nat_le moment c.at) (set cells at cell) + (if is_held greatest (cell_at cells at) && nat_le moment (cell_at cells at).at then 1 else 0)
          ≡ tally (λ c. is_held greatest c && nat_le moment c.at) cells + (if is_held greatest cell && nat_le moment cell.at then 1 else 0)
          = tally-set (λ c. is_held greatest c && nat_le moment c.at) cells at cell no_cell inside in
          let step_too : tally (λ c. is_held greatest c && nat_le moment c.at) (set cells at cell) + 0
          ≡ tally (λ c. is_held greatest c && nat_le moment c.at) cells + (if nat_le moment cell.at then 1 else 0)
          = rw (free, held) at step in
          omega (arith, step_too, counted moment, is.counts moment floor);
      recent =
          let early : nat_le (greatest - skew) cell.at ≡ true = and_right (is_held greatest cell) (nat_le (greatest - skew) cell.at) (recent-held greatest cell ∙ held) in
          omega (arith, length_is, is.recent, rw early at (counted (greatest - skew)));
      room = room_is ∙ is.room;
    }
  where
    and_right : (a b : Bool) → (a && b) ≡ true → b ≡ true
    and_right true b both = both
    and_right false b both = cc
