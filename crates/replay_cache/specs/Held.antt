-- A cache as it lies in memory.
use Rattle.std.specs.Prelude.{◌≡◌, ℕ, ◌-◌, ◌^◌, ◌<◌, ◌≤◌, true, ◌&&◌, nat_le, List, length}
use Rattle.std.specs.Prelude.{slice_index_or}
use Rattle.gss_base.specs.declared.mark.Mark.{Mark}
use Rattle.replay_cache.specs.declared.cells.Cell.{Cell}
use Rattle.replay_cache.specs.Taking.{skew, same_mark}
use Rattle.replay_cache.specs.Tally.{tally, late}
use Rattle.replay_cache.specs.Heap.{Bag}
use Rattle.replay_cache.specs.Cells.{cell_at, mark_in, is_held, turn_of, next_turn, home_of}
use Rattle.replay_cache.specs.Cells.{steps_to}

-- the cells, and for each home how many steps after it at most its held marks lie
pub record IsIndexed (greatest : ℕ) (cells : List Cell) (reaches : List ℕ) : Type 0 where
  pub many : length cells ≤ 2 ^ 21
  pub reaches_of : length reaches ≡ length cells
  pub short : (h : ℕ) → h < length cells → slice_index_or reaches h 0 < length cells
  -- a held mark lies within reach of its home
  pub reached : (p : ℕ) → p < length cells → is_held greatest (cell_at cells p) ≡ true
      → steps_to (length cells) (home_of (length cells) (mark_in (cell_at cells p))) p
      ≤ slice_index_or reaches (home_of (length cells) (mark_in (cell_at cells p))) 0
  -- no mark is held twice
  pub alone : (mark : Mark) (p q : ℕ) → p < length cells → q < length cells
      → is_held greatest (cell_at cells p) ≡ true → is_held greatest (cell_at cells q) ≡ true
      → same_mark (mark_in (cell_at cells p)) mark ≡ true
      → same_mark (mark_in (cell_at cells q)) mark ≡ true → p ≡ q

-- the turns that were given, and the times of the held marks
pub record IsCounted (capacity greatest taken : ℕ) (cells : List Cell) (times : Bag) : Type 0 where
  pub turns : (p : ℕ) → p < length cells → turn_of (cell_at cells p) < next_turn greatest taken
  -- what was taken since the greatest moment rose is held
  pub new : taken ≤ tally (is_held greatest) cells
  pub few : tally (is_held greatest) cells ≤ capacity
  -- as many times as held marks are at least a moment that is recent
  pub counts : (moment : ℕ) → greatest - skew ≤ moment
      → late moment times.times
      ≡ tally (λ cell. is_held greatest cell && nat_le moment cell.at) cells
  pub recent : late (greatest - skew) times.times ≡ length times.times
  pub room : times.room ≡ capacity

-- a cache in memory: the room, the greatest moment, how many marks were taken at it, the cells,
-- how far each home reaches, and the times of the held marks
pub record IsCache (capacity greatest taken : ℕ) (cells : List Cell) (reaches : List ℕ)
    (times : Bag) : Type 0 where
  pub some : 0 < capacity
  pub bounded : capacity ≤ 1000000
  pub enough : capacity ≤ length cells
  pub indexed : IsIndexed greatest cells reaches
  pub counted : IsCounted capacity greatest taken cells times
