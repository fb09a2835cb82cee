use Rattle.std.proofs.Common.{rules}
use Rattle.datagram_serving.proofs.serving.open_seat.Goals as goal

pub returns : goal.returns
returns c = search rules
