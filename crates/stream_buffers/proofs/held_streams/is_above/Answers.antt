use Rattle.std.proofs.Common.{rules}
use Rattle.stream_buffers.proofs.held_streams.is_above.Goals as goal

pub returns : goal.returns
returns c = search rules
