use Rattle.init_ends.specs.Ends.{end_by}
use Rattle.init_ends.specs.Initiating.{end_step}
use Rattle.gss_client.specs.Judging.{creation_by}
use Rattle.world_runs.specs.Moving.{moves_means}
use Rattle.world_runs.proofs.Wanting.{lost-take}
use Rattle.world_runs.proofs.initiators.take.Goals as goal

pub returns-in-Err-NoMemory : goal.returns-in-Err-NoMemory
returns-in-Err-NoMemory g c =
    lost-take c.args.first c.args.xid (creation_by end_step (end_by c.args.end (λ b. (goal.Mech-dyn g b).meaning b.1)) c.args.xid c.args.bytes.now) (moves_means c.lost.result (λ b. (goal.Mech-dyn g b).meaning b.1)) c.lost.ensures
