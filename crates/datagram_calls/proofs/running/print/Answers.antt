use Rattle.std.proofs.Common.{rules}
use Rattle.client_command.proofs.Saying.{wrote}
use Rattle.datagram_calls.proofs.running.print.Goals as goal

pub returns-in-Ok-clause-printed : goal.returns-in-Ok-clause-printed
returns-in-Ok-clause-printed g c = λ t. wrote c.args.text.now (c.in-Ok.ensures.told t)

pub returns-in-Ok-clause-sink_fault : goal.returns-in-Ok-clause-sink_fault
returns-in-Ok-clause-sink_fault g c = search rules
