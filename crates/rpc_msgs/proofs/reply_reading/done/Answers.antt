use Rattle.std.proofs.Common.{rules}
use Rattle.rpc_msgs.specs.ReplyReading.{done_at}
use Rattle.rpc_msgs.proofs.reply_reading.done.Goals as goal

pub returns : goal.returns
unfolding done_at
returns c = search rules
