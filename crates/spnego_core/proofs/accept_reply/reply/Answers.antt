use Rattle.spnego_core.proofs.Short.{few_oid, if_reply}
use Rattle.spnego_core.proofs.accept_reply.reply.Goals as goal

pub returns-clause-short : goal.returns-clause-short
returns-clause-short c = λ t m.
    if_reply c.args.turn c.args.oid c.args.owes c.args.finished c.state_said.result c.mech_said.result c.args.token c.args.mic c.octets_of.result
    (few_oid c.args.oid c.content-content.ensures.grammar) c.state_said.ensures c.mech_said.ensures c.octets_of.ensures t m
