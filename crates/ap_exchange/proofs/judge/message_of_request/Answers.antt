use Rattle.std.proofs.Common.{arith}
use Rattle.ap_exchange.proofs.Places.{request_within}
use Rattle.ap_exchange.proofs.judge.message_of_request.Goals as goal

pub refused_behind-requires : goal.refused_behind-requires
refused_behind-requires c = λ kept.
    let within = request_within c.args.message.now c.in-Err.refusal (c.in-Err.ensures.exact kept) in
    omega (arith, within, c.saturating_sub-before.ensures)
