use Rattle.std.proofs.Common.{arith}
use Rattle.rpc_msgs.proofs.record.allow.Goals as goal

pub returns : goal.returns
returns c = (omega arith, omega arith)
