use Rattle.std.proofs.Common.{arith}
use Rattle.std.proofs.lemmas.Grind.{common_steps}
use Rattle.rpc_msgs.specs.Replies.{reply_value}
use Rattle.rpc_msgs.proofs.ReplyLaws.{reply-again}
use Rattle.rpc_msgs.proofs.reply.write_reply.Goals as goal

pub returns-clause-again : goal.returns-clause-again
returns-clause-again c = reply-again (reply_value c.args.v.now) c.finish.result c.requires c.in_ok-put_reply.ensures.words (grind (arith, common_steps))
