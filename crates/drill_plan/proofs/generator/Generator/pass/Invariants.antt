use Rattle.std.proofs.Common.{◌≡◌, ◌-◌}
use Rattle.drill_plan.specs.Generator.{after_steps}
use Rattle.drill_plan.proofs.generator.Generator.pass.Given as goal

abbrev pub invariant-loop-number : goal.invariant-loop-number
invariant-loop-number l = after_steps (l.count - l.number) l.self.value ≡ after_steps l.fn.count l.fn.self.value
