use Rattle.std.proofs.Common.{◌-◌, ◌+◌}
use Rattle.datagram_client.proofs.Loops.{Loop}
use Rattle.datagram_client.proofs.calling.call_session.Given as goal

abbrev pub invariant-loop-nones : goal.invariant-loop-nones
invariant-loop-nones g l =
    Loop g.P.Post g.D.Draw l.fn.session l.fn.procedure l.fn.args l.fn.tries l.fn.post l.post l.fn.draw l.draw l.nones l.passed l.session l.first

abbrev pub decreases-loop-nones : goal.decreases-loop-nones
decreases-loop-nones g l = (l.tries - l.nones) + (1024 - l.passed)
