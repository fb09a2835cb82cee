use Rattle.std.proofs.Common.{rules}
use Rattle.world_runs.proofs.initiators.ask.Goals as goal

pub returns-in-Err : goal.returns-in-Err
returns-in-Err g c = c.lost.ensures _ _

pub returns-in-Ok : goal.returns-in-Ok
returns-in-Ok g c = search rules
