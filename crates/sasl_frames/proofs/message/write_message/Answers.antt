use Rattle.std.proofs.Common.{length}
use Rattle.sec_base.proofs.InARow.{written-same, written-short, sends-again}
use Rattle.sasl_frames.specs.Messages.{word}
use Rattle.sasl_frames.proofs.message.write_message.Goals as goal

pub returns-in-Ok-clause-told : goal.returns-in-Ok-clause-told
returns-in-Ok-clause-told g c =
    sends-again (g.L.Link.wire c.send-in-Ok.new.link) c.args.bytes.now c.send-in-Ok.result c.in-Ok.ensures.tells (written-same c.in-Ok.ensures.told c.header_of.ensures) c.send-in-Ok.ensures.told

pub returns-in-Err-clause-told : goal.returns-in-Err-clause-told
returns-in-Err-clause-told g c =
    let p = rw c.header_of.ensures at c.in-Err.ensures.told in
    written-short (word (length c.args.bytes.now)) c.args.bytes.now p.0 p.1
