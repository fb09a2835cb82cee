use Rattle.std.proofs.Common.{◌∙◌, ℕ, ap, sym}
use Rattle.drill_plan.specs.Generator.{octets_from, after_steps}
use Rattle.drill_command.proofs.Counted.{octets-many}
use Rattle.drill_command.proofs.draws.Drawing.into_generator.Goals as goal

pub returns-clause-given : goal.returns-clause-given
returns-clause-given g c = ap (λ (n : ℕ). octets_from n g.B.Begun.value) (sym (octets-many c.args.self.count.count g.B.Begun.value))

pub returns-clause-place : goal.returns-clause-place
returns-clause-place g c = c.args.self.place ∙ ap (λ (n : ℕ). after_steps n g.B.Begun.value) (sym (octets-many c.args.self.count.count g.B.Begun.value))
