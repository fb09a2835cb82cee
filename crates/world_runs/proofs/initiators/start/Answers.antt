use Rattle.init_ends.specs.Ends.{setup_by}
use Rattle.init_ends.specs.Initiating.{end_start}
use Rattle.world_runs.specs.Moving.{moves_means}
use Rattle.world_runs.proofs.Wanting.{lost-start}
use Rattle.world_runs.proofs.initiators.start.Goals as goal

pub returns-in-Err-NoMemory : goal.returns-in-Err-NoMemory
returns-in-Err-NoMemory g c = lost-start (end_start (setup_by c.args.own (λ b. (goal.Mech-dyn g b).meaning b.1))) (moves_means c.lost.result (λ b. (goal.Mech-dyn g b).meaning b.1)) c.lost.ensures
