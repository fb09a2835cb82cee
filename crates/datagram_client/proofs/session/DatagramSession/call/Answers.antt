use Rattle.std.proofs.Common.{Ok, subst}
use Rattle.gss_client.specs.Session.{SessionState}
use Rattle.datagram_client.specs.Calls.{Called}
use Rattle.datagram_client.proofs.session.DatagramSession.call.Goals as goal

pub returns-in-Ok-clause-called : goal.returns-in-Ok-clause-called
returns-in-Ok-clause-called g c = λ t.
    subst (λ (s : SessionState). Called g.P.Post g.D.Draw s c.args.procedure c.args.args.now c.args.tries c.args.post.now c.call_session.new.post c.args.draw.now c.call_session.new.draw (Ok (c.in-Ok.session, c.in-Ok.octets)))
    c.self.view_is (c.in-Ok.ensures.called t)
