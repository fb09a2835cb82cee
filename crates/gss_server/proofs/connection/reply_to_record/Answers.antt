use Rattle.std.proofs.Common.{ap, arith, length}
use Rattle.gss_server.proofs.KeptInARow.{makes-none, makes-so, makes-after}
use Rattle.gss_server.proofs.Replying.{replied-whole, replied-so, no-room}
use Rattle.gss_server.proofs.Turning.{asked-none}
use Rattle.gss_server.proofs.connection.reply_to_record.Goals as goal

pub returns-in-Ok-clause-replied : goal.returns-in-Ok-clause-replied
returns-in-Ok-clause-replied g c =
    makes-after c.make_room.ensures.same
    (makes-so c.answer_and_keep-reply.ensures.answered
    (λ xs p. (omega (arith, ap length p.only), replied-whole c.answer_and_keep-reply.result p c.in-Ok.ensures.told c.in-Ok.ensures.ruled)))

pub returns-clause-replied : goal.returns-clause-replied
returns-clause-replied g c =
    makes-after c.make_room.ensures.same
    (makes-so c.answer_and_keep-reply.ensures.answered
    (λ xs p. (omega (arith, ap length p.only), replied-so _ _ _ c.answer_and_keep-reply.result c.in-Err.end p c.in-Err.ensures.told c.in-Err.ensures.ruled)))

pub returns-then-is_err-clause-replied : goal.returns-then-is_err-clause-replied
returns-then-is_err-clause-replied g c =
    makes-none c.make_room.ensures.same (omega arith, no-room (g.L.Link.wire c.args.link.now) (asked-none _ _ _ _ 2 _))
