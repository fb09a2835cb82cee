use Rattle.std.proofs.Common.{rules}
use Rattle.world_runs.specs.Objects.{stage_means}
use Rattle.world_runs.specs.Worlds.{shown}
use Rattle.world_runs.proofs.MetRules.{first-rules}
use Rattle.world_runs.proofs.world.World.tell_calls.Goals as goal

pub returns-in-Some : goal.returns-in-Some
returns-in-Some g c =
    first-rules (λ s. stage_means s (λ b. (goal.Mech-dyn g b).meaning b.1)) c.in-Some.stage.now c.args.self.now.parts.stages.items (shown c.args.self.now (λ b. (goal.Mech-dyn g b).meaning b.1)).stages c.requires.stands c.tell_ruled.ensures (search rules)
