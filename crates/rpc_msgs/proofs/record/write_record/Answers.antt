use Rattle.std.proofs.Math.Nat.{le_trans}
use Rattle.std.proofs.Common.{◌+◌, ◌^◌, length, ◌∙◌}
use Rattle.rpc_msgs.specs.Words.{word}
use Rattle.sec_base.proofs.InARow.{written-same, written-short, sends-again}
use Rattle.rpc_msgs.proofs.record.write_record.Goals as goal

pub returns-in-Ok-clause-told : goal.returns-in-Ok-clause-told
returns-in-Ok-clause-told g c =
    sends-again (g.L.Link.wire c.send-in-Ok.new.link) c.args.bytes.now c.send-in-Ok.result c.in-Ok.ensures.tells (written-same c.in-Ok.ensures.told c.header_of.ensures) c.send-in-Ok.ensures.told

pub returns-in-Err-clause-told : goal.returns-in-Err-clause-told
returns-in-Err-clause-told g c =
    let p = rw c.header_of.ensures at c.in-Err.ensures.told in
    written-short (word (2 ^ 31 + length c.args.bytes.now)) c.args.bytes.now p.0 p.1

-- what the link keeps, by what was called last
pub returns-in-Ok-clause-tells : goal.returns-in-Ok-clause-tells
returns-in-Ok-clause-tells g c = c.send-in-Ok.ensures.tells ∙ c.in-Ok.ensures.tells

pub returns-in-Ok-clause-unclosed : goal.returns-in-Ok-clause-unclosed
returns-in-Ok-clause-unclosed g c = c.send-in-Ok.ensures.unclosed

pub returns-in-Ok-clause-faults : goal.returns-in-Ok-clause-faults
returns-in-Ok-clause-faults g c = le_trans c.in-Ok.ensures.faults c.send-in-Ok.ensures.faults

pub returns-in-Err-clause-tells : goal.returns-in-Err-clause-tells
returns-in-Err-clause-tells g c = c.in-Err.ensures.tells

pub returns-in-Err-clause-unclosed : goal.returns-in-Err-clause-unclosed
returns-in-Err-clause-unclosed g c = c.in-Err.ensures.unclosed

pub returns-in-Err-clause-faults : goal.returns-in-Err-clause-faults
returns-in-Err-clause-faults g c = c.in-Err.ensures.faults
