use Rattle.std.proofs.Common.{arith, inr}
use Rattle.drill_plan.proofs.Saying.{known-said, printed-all}
use Rattle.drill_command.proofs.drill.print.Goals as goal

pub returns-in-Ok-clause-printed : goal.returns-in-Ok-clause-printed
returns-in-Ok-clause-printed g c = λ t. printed-all _ _ _ c.say.result (rw c.as_bytes.ensures.value at c.in-Ok.ensures.told t) c.say.ensures.status

pub returns-in-Ok-clause-said : goal.returns-in-Ok-clause-said
returns-in-Ok-clause-said g c = λ t. known-said 0 (omega arith) c.say.ensures.status (c.say.ensures.said t)

pub returns-in-Ok-clause-fault : goal.returns-in-Ok-clause-fault
returns-in-Ok-clause-fault g c = λ e. inr (c.say.ensures.fault e)
