use Rattle.std.proofs.Common.{◌≡◌, ℕ, ◌<◌, false, length}
use Rattle.replay_cache.specs.Cells.{has_mark, steps_to}
use Rattle.replay_cache.proofs.cells.find_mark.Given as goal

abbrev pub invariant-loop-step : goal.invariant-loop-step
invariant-loop-step l = (p : ℕ) → p < length l.cells → steps_to (length l.cells) l.home p < l.step
    → has_mark l.greatest l.cells l.mark p ≡ false
