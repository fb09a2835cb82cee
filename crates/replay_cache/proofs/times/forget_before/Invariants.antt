use Rattle.std.proofs.Common.{◌≡◌, ℕ, ◌≤◌, vec_len, vec_capacity}
use Rattle.replay_cache.specs.Tally.{late}
use Rattle.replay_cache.specs.Heap.{IsHeap}
use Rattle.replay_cache.proofs.times.forget_before.Given as goal

abbrev pub invariant-loop-heap : goal.invariant-loop-heap
invariant-loop-heap l = record {
  heap : IsHeap l.heap.items;
  room : vec_capacity l.heap ≡ vec_capacity l.initial.heap;
  kept : (moment : ℕ) → l.floor ≤ moment → late moment l.heap.items ≡ late moment l.initial.heap.items;
}

abbrev pub decreases-loop-heap : goal.decreases-loop-heap
decreases-loop-heap l = vec_len l.heap
