use Rattle.std.proofs.Common.{rules}
use Rattle.server_command.proofs.server.refused.Goals as goal

pub returns-clause-sink_fault : goal.returns-clause-sink_fault
returns-clause-sink_fault g c = search rules
