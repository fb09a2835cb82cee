use Rattle.std.proofs.Math.Nat.{le_trans}
use Rattle.std.proofs.Common.{◌∙◌}
use Rattle.rpc_msgs.specs.Fragments.{Heads}
use Rattle.rpc_msgs.proofs.FragmentSteps.{after-header}
use Rattle.rpc_msgs.proofs.record.read_fragment.Goals as goal

pub returns-in-Ok-Some-clause-told : goal.returns-in-Ok-Some-clause-told
returns-in-Ok-Some-clause-told g c =
    let heads : Heads (g.L.Link.tells c.args.link.now) (g.L.Link.wire c.args.link.now) (g.L.Link.wire c.read_header.new.link) c.in-Ok-Some.header = rw c.in-Ok-Some.field-0-is at c.in-Ok-Some.ensures.told in
    after-header (g.L.Link.wire c.read_announced.new.link) c.args.number c.in-Ok-Some.header c.args.octets.now.items c.read_announced.new.octets.items c.read_announced.result c.in-Ok-Some.ensures.tells heads c.read_announced.ensures.told

-- what the link keeps, by what was called last
pub returns-in-Ok-Some-clause-tells : goal.returns-in-Ok-Some-clause-tells
returns-in-Ok-Some-clause-tells g c = c.read_announced.ensures.tells ∙ c.in-Ok-Some.ensures.tells

pub returns-in-Ok-Some-clause-unclosed : goal.returns-in-Ok-Some-clause-unclosed
returns-in-Ok-Some-clause-unclosed g c = c.read_announced.ensures.unclosed

pub returns-in-Ok-Some-clause-faults : goal.returns-in-Ok-Some-clause-faults
returns-in-Ok-Some-clause-faults g c = le_trans c.in-Ok-Some.ensures.faults c.read_announced.ensures.faults

pub returns-in-Ok-None-clause-tells : goal.returns-in-Ok-None-clause-tells
returns-in-Ok-None-clause-tells g c = c.in-Ok-None.ensures.tells

pub returns-in-Ok-None-clause-unclosed : goal.returns-in-Ok-None-clause-unclosed
returns-in-Ok-None-clause-unclosed g c = c.in-Ok-None.ensures.unclosed

pub returns-in-Ok-None-clause-faults : goal.returns-in-Ok-None-clause-faults
returns-in-Ok-None-clause-faults g c = c.in-Ok-None.ensures.faults

pub returns-in-Err-clause-tells : goal.returns-in-Err-clause-tells
returns-in-Err-clause-tells g c = c.in-Err.ensures.tells

pub returns-in-Err-clause-unclosed : goal.returns-in-Err-clause-unclosed
returns-in-Err-clause-unclosed g c = c.in-Err.ensures.unclosed

pub returns-in-Err-clause-faults : goal.returns-in-Err-clause-faults
returns-in-Err-clause-faults g c = c.in-Err.ensures.faults

pub returns-in-Ok-Some-clause-size : goal.returns-in-Ok-Some-clause-size
returns-in-Ok-Some-clause-size g c = c.read_announced.ensures.size

pub returns-in-Ok-Some-clause-more : goal.returns-in-Ok-Some-clause-more
returns-in-Ok-Some-clause-more g c = c.read_announced.ensures.more

pub returns-in-Ok-Some-clause-last : goal.returns-in-Ok-Some-clause-last
returns-in-Ok-Some-clause-last g c = c.read_announced.ensures.last
