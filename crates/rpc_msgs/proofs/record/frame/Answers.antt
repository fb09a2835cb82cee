use Rattle.std.proofs.Common.{◌∙◌, ◌-◌, ◌+◌, ◌^◌, drop, length}
use Rattle.rpc_msgs.specs.Words.{word}
use Rattle.rpc_msgs.proofs.WordLengths.{length-word}
use Rattle.rpc_msgs.proofs.InARow.{take-framed}
use Rattle.rpc_msgs.proofs.record.frame.Goals as goal

pub returns : goal.returns
returns c =
    let bytes = c.args.bytes.now in
    take-framed (4 + length bytes - 4) (word (2 ^ 31 + length bytes)) bytes (drop 4 c.args.cells.now) c.copy_from_slice.new.self c.copy_from_slice-2.new.self (c.copy_from_slice.ensures.after ∙ c.header_of.ensures) c.copy_from_slice-2.ensures.after (length-word (2 ^ 31 + length bytes))
