use Rattle.std.proofs.Common.{All}
use Rattle.stream_buffers.specs.HeldStreams.{IsLow}
use Rattle.stream_buffers.proofs.held_streams.HeldStreams.hold.Given as goal

abbrev pub invariant-loop-at : goal.invariant-loop-at
invariant-loop-at g l = All IsLow l.below
