use Rattle.std.proofs.Common.{ℕ, ap, ◌∙◌}
use Rattle.gss_client.specs.Start.{objects_start}
use Rattle.drill_plan.specs.Generator.{octets_from}
use Rattle.drill_plan.specs.Setting.{drill_start}
use Rattle.drill_command.specs.Drilled.{after_start}
use Rattle.drill_command.proofs.sessions.due_of.Goals as goal

pub returns-in-Ok-clause-start : goal.returns-in-Ok-clause-start
returns-in-Ok-clause-start g c =
    c.in-Ok.ensures.is ∙ ap (λ (m : ℕ). objects_start (drill_start c.args.number m (octets_from 66 c.args.generators.now.client.value))) c.moment_of-stamp.ensures

pub returns-in-Ok-clause-client : goal.returns-in-Ok-clause-client
unfolding after_start
returns-in-Ok-clause-client g c = c.in-Ok.ensures.place
