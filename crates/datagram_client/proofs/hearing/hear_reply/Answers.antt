use Rattle.std.proofs.Common.{arith}
use Rattle.datagram_client.proofs.Listening.{passed}
use Rattle.datagram_client.proofs.hearing.hear_reply.Goals as goal

pub loop-over-preserved : goal.loop-over-preserved
loop-over-preserved g c =
    passed g.P.Post c.args.xid c.args.over.now c.args.post.now c.loop-over.over c.loop-over.post c.hear_one.new.post c.loop-over.invariant (omega (arith, c.loop-over-test.true))
    c.in-Other.ensures.heard c.hear_one.ensures.sent c.hear_one.ensures.tells c.hear_one.ensures.faults
