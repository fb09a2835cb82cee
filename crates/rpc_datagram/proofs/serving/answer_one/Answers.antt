use Rattle.gss_server.specs.Connections.{ruling_for, asked_for}
use Rattle.gss_server.proofs.KeptInARow.{makes-so}
use Rattle.gss_server.specs.Hearing.{serving}
use Rattle.rpc_datagram.proofs.Rows.{one-turn}
use Rattle.rpc_datagram.proofs.serving.answer_one.Goals as goal

pub returns-clause-answered : goal.returns-clause-answered
returns-clause-answered g c =
    makes-so c.answer_and_keep-reply.ensures.answered
    (λ xs p. record {
      one = p.one;
      only = p.only;
      exact = p.exact;
      ruled = c.respond.ensures.ruled (ruling_for (serving g.G.Gate.program c.args.width) c.args.octets.now p.one) p.ruled;
      turns = one-turn g.P.Post g.G.Gate (serving g.G.Gate.program c.args.width) c.args.gate.now c.turn.new.self c.answer_and_keep-reply.new.gate c.xid_of.result c.args.octets.now (asked_for (serving g.G.Gate.program c.args.width) c.args.octets.now p.one) c.turn.ensures c.xid_of.ensures p.asked.answers;
      heard = c.respond.ensures.heard;
      sent = λ t. c.respond.ensures.told t (ruling_for (serving g.G.Gate.program c.args.width) c.args.octets.now p.one) p.ruled;
    })
