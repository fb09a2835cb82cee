-- The times of the held marks as they lie in memory: a heap, in which each time is at least that of
-- its parent. The parent of the place k is (k - 1) / 2, and the first place is its own.
use Rattle.std.specs.Prelude.{◌≡◌, ◌≢◌, ℕ, ◌-◌, ◌/◌, ◌<◌, ◌≤◌, List, length, slice_index_or}
use Rattle.replay_cache.specs.Tally.{late}

-- what a bag of times is: for how many it has room, and the times
pub record Bag : Type 0 where
  pub room : ℕ
  pub times : List ℕ

-- each time is at least that of its parent
pub record IsHeap (heap : List ℕ) : Type 0 where
  pub rises : (k : ℕ) → k < length heap
      → slice_index_or heap ((k - 1) / 2) 0 ≤ slice_index_or heap k 0

-- a heap but at one place, whose time may be too small for its parent
pub record IsHeapBelow (heap : List ℕ) (place : ℕ) : Type 0 where
  pub inside : place < length heap
  pub rises : (k : ℕ) → k < length heap → k ≢ place
      → slice_index_or heap ((k - 1) / 2) 0 ≤ slice_index_or heap k 0
  pub over : 0 < place → (k : ℕ) → k < length heap → (k - 1) / 2 ≡ place
      → slice_index_or heap ((place - 1) / 2) 0 ≤ slice_index_or heap k 0

-- a heap but at one place, whose time may be too great for its children
pub record IsHeapAbove (heap : List ℕ) (place : ℕ) : Type 0 where
  pub inside : place < length heap
  pub rises : (k : ℕ) → k < length heap → (k - 1) / 2 ≢ place
      → slice_index_or heap ((k - 1) / 2) 0 ≤ slice_index_or heap k 0
  pub over : 0 < place → (k : ℕ) → k < length heap → (k - 1) / 2 ≡ place
      → slice_index_or heap ((place - 1) / 2) 0 ≤ slice_index_or heap k 0

-- two places of a list changed their times
pub record Exchanged (old new : List ℕ) (a b : ℕ) : Type 0 where
  pub length_is : length new ≡ length old
  pub first : slice_index_or new a 0 ≡ slice_index_or old b 0
  pub second : slice_index_or new b 0 ≡ slice_index_or old a 0
  pub other : (k : ℕ) → k ≢ a → k ≢ b → slice_index_or new k 0 ≡ slice_index_or old k 0
  pub same : (moment : ℕ) → late moment new ≡ late moment old

-- the child of a place with the lesser time
pub record IsLesser (heap : List ℕ) (place child : ℕ) : Type 0 where
  pub below : (child - 1) / 2 ≡ place
  pub after : place < child
  pub inside : child < length heap
  pub least : (k : ℕ) → k < length heap → (k - 1) / 2 ≡ place → 0 < k
      → slice_index_or heap child 0 ≤ slice_index_or heap k 0
