use Rattle.std.proofs.Common.{arith}
use Rattle.drill_plan.proofs.Steps.{steps-more, steps-done}
use Rattle.drill_plan.proofs.generator.Generator.pass.Goals as goal

pub loop-number-preserved : goal.loop-number-preserved
loop-number-preserved c =
    rw c.next-octet.ensures.value (steps-more c.args.count c.loop-number.number c.loop-number.self.value _ c.loop-number-test.true c.loop-number.invariant)

pub returns : goal.returns
returns c = steps-done c.args.count c.loop-number.number c.loop-number.self.value _ (omega (arith, c.loop-number-test.false)) c.loop-number.invariant
