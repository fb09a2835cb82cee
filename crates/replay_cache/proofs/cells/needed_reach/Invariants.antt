use Rattle.std.proofs.Common.{◌≡◌, ℕ, ◌<◌, ◌≤◌, true, length}
use Rattle.replay_cache.specs.Cells.{is_from, steps_to}
use Rattle.replay_cache.proofs.cells.needed_reach.Given as goal

abbrev pub invariant-loop-step : goal.invariant-loop-step
invariant-loop-step l = record {
  less : l.needed ≤ l.reach;
  early : l.needed ≤ l.step;
  covers : (p : ℕ) → p < length l.cells → steps_to (length l.cells) l.home p < l.step
      → is_from l.greatest l.cells l.home p ≡ true
      → steps_to (length l.cells) l.home p ≤ l.needed;
}
