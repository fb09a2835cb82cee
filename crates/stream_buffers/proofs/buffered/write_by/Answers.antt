use Rattle.std.proofs.Common.{◌≡◌}
use Rattle.sec_base.proofs.InARow.{written-same}
use Rattle.stream_buffers.specs.Behind.{unwritten}
use Rattle.stream_buffers.proofs.Queueing.{written-past, written-with, none-with}
use Rattle.stream_buffers.proofs.buffered.write_by.Goals as goal

pub returns-then-front-gt0-clause-in_order : goal.returns-then-front-gt0-clause-in_order
returns-then-front-gt0-clause-in_order g c =
    written-with c.args.buf.now c.keep_front-front.result c.in_ok-flush.ensures.told c.keep_front-front.ensures.octets c.flush.ensures.none

pub returns-clause-in_order : goal.returns-clause-in_order
returns-clause-in_order g c =
    let same : unwritten c.keep_front-front.new.self ≡ unwritten c.args.behind.now = none-with c.args.buf.now c.keep_front-front.result c.keep_front-front.ensures.octets c.if-front-gt0.false in
    written-past _ (g.L.Link.wire c.write.new.self) c.args.buf.now c.write.result (written-same c.in_ok-flush.ensures.told same) c.write.ensures.told c.flush.ensures.none

pub returns-then-front-gt0-clause-count : goal.returns-then-front-gt0-clause-count
returns-then-front-gt0-clause-count g c = c.keep_front-front.ensures.count

pub returns-then-front-gt0-clause-some : goal.returns-then-front-gt0-clause-some
returns-then-front-gt0-clause-some g c = λ some. c.if-front-gt0.true
