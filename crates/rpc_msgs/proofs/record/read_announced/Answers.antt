use Rattle.std.proofs.Common.{arith}
use Rattle.rpc_msgs.proofs.FragmentSteps.{announced-denied, announced-fault, announced-last, announced-memory, announced-torn}
use Rattle.rpc_msgs.proofs.record.read_announced.Goals as goal

pub returns-in-Err-clause-told : goal.returns-in-Err-clause-told
returns-in-Err-clause-told g c = announced-denied (g.L.Link.tells c.args.link.now) (g.L.Link.wire c.args.link.now) c.args.octets.now.items c.args.number c.len.result c.args.header c.in-Err.refusal (omega arith) c.in-Err.ensures

pub returns-in-Err-LinkFault-clause-told : goal.returns-in-Err-LinkFault-clause-told
returns-in-Err-LinkFault-clause-told g c =
    announced-fault (g.L.Link.tells c.args.link.now) (g.L.Link.wire c.args.link.now) (g.L.Link.wire c.read_content.new.link) c.args.octets.now.items c.read_content.new.octets.items c.args.number c.args.header c.in-Ok.ensures.0 (omega (arith, c.in-Ok.ensures.1)) c.in-Err-LinkFault.field-0 c.in-Err-LinkFault.field-0-is c.in-Err-LinkFault.ensures.told

pub returns-in-Err-NoMemory-clause-told : goal.returns-in-Err-NoMemory-clause-told
returns-in-Err-NoMemory-clause-told g c =
    announced-memory (g.L.Link.tells c.args.link.now) (g.L.Link.wire c.args.link.now) (g.L.Link.wire c.read_content.new.link) c.args.octets.now.items c.read_content.new.octets.items c.args.number c.args.header c.in-Ok.ensures.0 (omega (arith, c.in-Ok.ensures.1)) c.in-Err-NoMemory.field-0 c.in-Err-NoMemory.field-0-is c.in-Err-NoMemory.ensures.told

-- what the link keeps, by what was called last
pub returns-in-Ok-true-clause-tells : goal.returns-in-Ok-true-clause-tells
returns-in-Ok-true-clause-tells g c = c.in-Ok-true.ensures.tells

pub returns-in-Ok-true-clause-unclosed : goal.returns-in-Ok-true-clause-unclosed
returns-in-Ok-true-clause-unclosed g c = c.in-Ok-true.ensures.unclosed

pub returns-in-Ok-true-clause-faults : goal.returns-in-Ok-true-clause-faults
returns-in-Ok-true-clause-faults g c = c.in-Ok-true.ensures.faults

pub returns-in-Ok-false-clause-tells : goal.returns-in-Ok-false-clause-tells
returns-in-Ok-false-clause-tells g c = c.in-Ok-false.ensures.tells

pub returns-in-Ok-false-clause-unclosed : goal.returns-in-Ok-false-clause-unclosed
returns-in-Ok-false-clause-unclosed g c = c.in-Ok-false.ensures.unclosed

pub returns-in-Ok-false-clause-faults : goal.returns-in-Ok-false-clause-faults
returns-in-Ok-false-clause-faults g c = c.in-Ok-false.ensures.faults

-- what was read of the stream
pub returns-in-Ok-true-clause-told : goal.returns-in-Ok-true-clause-told
returns-in-Ok-true-clause-told g c = announced-last (g.L.Link.tells c.args.link.now) (g.L.Link.wire c.args.link.now) (g.L.Link.wire c.read_content.new.link) c.args.octets.now.items c.read_content.new.octets.items c.args.number c.args.header (omega arith) (omega arith) c.in-Ok-true.field-0 (cc) c.in-Ok-true.ensures.told

pub returns-in-Ok-false-clause-told : goal.returns-in-Ok-false-clause-told
returns-in-Ok-false-clause-told g c = announced-torn (g.L.Link.tells c.args.link.now) (g.L.Link.wire c.args.link.now) (g.L.Link.wire c.read_content.new.link) c.args.octets.now.items c.read_content.new.octets.items c.args.number c.args.header c.in-Ok.ensures.0 (omega (arith, c.in-Ok.ensures.1)) c.in-Ok-false.field-0 (cc) c.in-Ok-false.ensures.told
