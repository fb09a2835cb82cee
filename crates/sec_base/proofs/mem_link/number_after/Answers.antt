use Rattle.sec_base.proofs.Pieces.{pieces-behind}
use Rattle.sec_base.proofs.mem_link.number_after.Goals as goal

pub returns-then-number-pieces : goal.returns-then-number-pieces
returns-then-number-pieces c = pieces-behind c.args.pieces.now c.args.number
