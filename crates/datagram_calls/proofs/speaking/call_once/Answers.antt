use Rattle.std.proofs.Common.{inr}
use Rattle.datagram_calls.proofs.Called.{fits, foreign}
use Rattle.datagram_calls.proofs.speaking.call_once.Goals as goal

pub returns-then-is_result-clause-answered : goal.returns-then-is_result-clause-answered
returns-then-is_result-clause-answered g c = λ t.
    fits g.P.Post g.D.Draw _ c.args.asks.now c.args.session c.number.result c.is_result.result c.in-Ok.next c.in-Ok.result c.args.post.now c.call.new.post c.args.draw.now c.call.new.draw
    c.asks.view_is c.number.ensures (rw c.as_slice.ensures at c.is_result.ensures) c.if-is_result.true (c.in-Ok.ensures.called t)

pub returns-else-is_result-clause-answered : goal.returns-else-is_result-clause-answered
returns-else-is_result-clause-answered g c = λ t. inr
    (foreign g.P.Post g.D.Draw _ c.args.asks.now c.args.session c.number.result c.is_result.result c.in-Ok.next c.in-Ok.result c.args.post.now c.call.new.post c.args.draw.now c.call.new.draw
    c.asks.view_is c.number.ensures (rw c.as_slice.ensures at c.is_result.ensures) c.if-is_result.false (c.in-Ok.ensures.called t))
