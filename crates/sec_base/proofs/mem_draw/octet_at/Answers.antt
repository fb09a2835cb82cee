use Rattle.sec_base.proofs.GivenInMemory.{octets_given-past}
use Rattle.sec_base.proofs.mem_draw.octet_at.Goals as goal

pub returns-else-count-length : goal.returns-else-count-length
returns-else-count-length c = octets_given-past c.args.octets.now c.args.count c.if-count-length.false
