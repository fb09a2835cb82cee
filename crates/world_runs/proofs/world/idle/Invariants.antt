use Rattle.std.proofs.Common.{◌≡◌, replicate, None}
use Rattle.world_runs.proofs.world.idle.Given as goal

abbrev pub invariant-loop : goal.invariant-loop
invariant-loop l = l.lanes.items ≡ replicate l.counter None
