use Rattle.std.proofs.Common.{◌≡◌, ℕ}
use Rattle.replay_cache.specs.Tally.{late}
use Rattle.replay_cache.specs.Heap.{IsHeapBelow}
use Rattle.replay_cache.proofs.times.rise.Given as goal

abbrev pub invariant-loop-place : goal.invariant-loop-place
invariant-loop-place l = record {
  below : IsHeapBelow l.heap l.place;
  same : (moment : ℕ) → late moment l.heap ≡ late moment l.initial.heap;
}

abbrev pub decreases-loop-place : goal.decreases-loop-place
decreases-loop-place l = l.place
