use Rattle.std.proofs.Common.{rules}
use Rattle.world_runs.proofs.world.deliver_from.Goals as goal

pub returns-in-Stands : goal.returns-in-Stands
returns-in-Stands g c = search rules
