use Rattle.std.proofs.Common.{◌-◌}
use Rattle.datagram_client.proofs.Listening.{Listening}
use Rattle.datagram_client.proofs.hearing.hear_reply.Given as goal

abbrev pub invariant-loop-over : goal.invariant-loop-over
invariant-loop-over g l = Listening g.P.Post l.fn.xid l.fn.over l.over l.fn.post l.post

abbrev pub decreases-loop-over : goal.decreases-loop-over
decreases-loop-over g l = 1024 - l.over
