use Rattle.std.proofs.Common.{arith}
use Rattle.stream_buffers.proofs.Waiting.{moved-on}
use Rattle.stream_buffers.proofs.ahead.Ahead.move_to.Goals as goal

pub returns-clause-octets : goal.returns-clause-octets
returns-clause-octets c =
    let ahead = c.args.self.now in
    moved-on ahead.octets.items c.deref.result.now c.copy_from_slice.new.self _ ahead.at ahead.end c.min-count.result c.deref.ensures.value c.copy_from_slice.ensures.after (omega (arith, ahead.order, c.min-count.ensures)) (omega (arith, ahead.within, ahead.octets.ok.0))
