use Rattle.std.proofs.Common.{rules}
use Rattle.client_command.proofs.Saying.{wrote}
use Rattle.client_command.proofs.client.print.Goals as goal

pub returns-in-Ok-clause-printed : goal.returns-in-Ok-clause-printed
returns-in-Ok-clause-printed g c = λ t. wrote c.args.text.now (c.in-Ok.ensures.told t)

pub returns-in-Ok-clause-sink_fault : goal.returns-in-Ok-clause-sink_fault
returns-in-Ok-clause-sink_fault g c = search rules
