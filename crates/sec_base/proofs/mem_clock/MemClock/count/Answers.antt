use Rattle.std.proofs.Common.{sym}
use Rattle.sec_base.proofs.GivenInMemory.{moments_given-length}
use Rattle.sec_base.proofs.mem_clock.MemClock.count.Goals as goal

pub returns-clause-count : goal.returns-clause-count
returns-clause-count c = sym (moments_given-length c.args.self.now.moments.items 0 c.args.self.now.count)
