use Rattle.std.proofs.Common.{◌≡◌, ℕ, ◌-◌, length}
use Rattle.replay_cache.specs.Tally.{late}
use Rattle.replay_cache.specs.Heap.{IsHeapAbove}
use Rattle.replay_cache.proofs.times.sink.Given as goal

abbrev pub invariant-loop-place : goal.invariant-loop-place
invariant-loop-place l = record {
  above : IsHeapAbove l.heap l.place;
  same : (moment : ℕ) → late moment l.heap ≡ late moment l.initial.heap;
}

abbrev pub decreases-loop-place : goal.decreases-loop-place
decreases-loop-place l = length l.heap - l.place
