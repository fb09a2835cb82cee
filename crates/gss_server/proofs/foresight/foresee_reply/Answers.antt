use Rattle.std.proofs.Common.{ap, arith, length}
use Rattle.std.proofs.lemmas.List.{length-take-le}
use Rattle.gss_server.proofs.foresight.foresee_reply.Goals as goal

pub foresee4-requires-clause-third : goal.foresee4-requires-clause-third
foresee4-requires-clause-third c =
    let size = ap length c.mic_due-of_verifier.ensures.message in
    omega (arith, size, length-take-le 4 c.args.of_body.now.message.now (omega arith))
