use Rattle.sec_base.proofs.GivenInMemory.{octets_given-front}
use Rattle.sec_base.proofs.mem_draw.MemDrawDraw.fill.Goals as goal

pub returns-clause-front : goal.returns-clause-front
returns-clause-front c = octets_given-front c.loop-octet.self.octets.items c.loop-octet.self.count
