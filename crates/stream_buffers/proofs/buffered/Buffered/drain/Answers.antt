use Rattle.std.proofs.Common.{◌≡◌, true, false}
use Rattle.stream_buffers.specs.Behind.{held}
use Rattle.stream_buffers.proofs.Waiting.{sent-written}
use Rattle.stream_buffers.proofs.buffered.Buffered.drain.Goals as goal

pub returns-then-is_drained-clause-written : goal.returns-then-is_drained-clause-written
returns-then-is_drained-clause-written g c = λ none.
    sent-written (g.L.Link.tells c.args.self.now.link) (g.L.Link.wire c.args.self.now.link) (g.L.Link.wire c.flush.new.self.link) c.flush.result (held c.args.self.now.behind) c.flush.ensures.told

pub returns-clause-none : goal.returns-clause-none
returns-clause-none g c = λ none. let e : false ≡ true = rw none at c.if-is_drained.ensures in cc

pub returns-clause-written : goal.returns-clause-written
returns-clause-written g c = λ none. let e : false ≡ true = rw none at c.if-is_drained.ensures in cc
