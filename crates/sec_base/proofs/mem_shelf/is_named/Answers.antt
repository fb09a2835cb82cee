use Rattle.std.proofs.Common.{rules}
use Rattle.sec_base.proofs.mem_shelf.is_named.Goals as goal

pub returns : goal.returns
returns c = search rules
