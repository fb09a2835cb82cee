use Rattle.std.proofs.Common.{arith}
use Rattle.stream_buffers.proofs.Waiting.{none-wait}
use Rattle.stream_buffers.proofs.ahead.Ahead.is_empty.Goals as goal

pub returns-clause-nothing : goal.returns-clause-nothing
returns-clause-nothing c =
    let ahead = c.args.self.now in
    none-wait ahead.at ahead.end ahead.octets.items ahead.order (omega (arith, ahead.within, ahead.octets.ok.0))
