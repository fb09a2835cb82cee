use Rattle.std.proofs.Common.{ap}
use Rattle.world_runs.specs.Objects.{stage_means}
use Rattle.world_runs.proofs.MetRules.{rules-of}
use Rattle.world_runs.proofs.world.tell_ruled.Goals as goal

pub returns-in-Stands : goal.returns-in-Stands
returns-in-Stands g c = rules-of c.of-keys.result (stage_means c.args.stage.now (λ b. (goal.Mech-dyn g b).meaning b.1)) c.in-Stands.session _ (ap (λ s. stage_means s (λ b. (goal.Mech-dyn g b).meaning b.1)) c.in-Stands.is) c.outcome.ensures c.of-keys.ensures
