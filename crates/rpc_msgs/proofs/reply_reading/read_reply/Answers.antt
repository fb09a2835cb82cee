use Rattle.std.proofs.Common.{arith, ap, subst, ◌∙◌}
use Rattle.rpc_msgs.specs.Xdr.{Answers}
use Rattle.rpc_msgs.specs.Replies.{reply_value}
use Rattle.rpc_msgs.specs.ReplyReading.{reply_at}
use Rattle.rpc_msgs.proofs.ReplyLaws.{reply-only, reply-spelled}
use Rattle.rpc_msgs.proofs.reply_reading.read_reply.Goals as goal

pub returns-clause-spelled : goal.returns-clause-spelled
returns-clause-spelled c = reply-spelled c.args.bytes.now c.reply_in.result (λ k. omega (arith, c.type_inv.bytes k)) c.reply_in.ensures

pub returns-clause-only : goal.returns-clause-only
returns-clause-only c = λ reply is words e. subst (λ answer. Answers reply_value c.reply_in.result answer) (ap reply_at e ∙ reply-only reply is words) c.reply_in.ensures
