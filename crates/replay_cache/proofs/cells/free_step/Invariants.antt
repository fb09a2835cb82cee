use Rattle.std.proofs.Common.{◌≡◌, ℕ, ◌<◌, true, length}
use Rattle.replay_cache.specs.Cells.{cell_at, is_held, steps_to}
use Rattle.replay_cache.proofs.cells.free_step.Given as goal

abbrev pub invariant-loop-step : goal.invariant-loop-step
invariant-loop-step l = (p : ℕ) → p < length l.cells → steps_to (length l.cells) l.home p < l.step → is_held l.greatest (cell_at l.cells p) ≡ true
