use Rattle.std.proofs.Common.{arith}
use Rattle.std.proofs.lemmas.Grind.{common_steps}
use Rattle.world_runs.proofs.world.ready.Goals as goal

pub loop-own-preserved : goal.loop-own-preserved
loop-own-preserved g c = grind (arith, common_steps)
