use Rattle.std.proofs.Common.{rules}
use Rattle.ap_exchange.proofs.times.is_near.Goals as goal

pub returns-then-total : goal.returns-then-total
returns-then-total c = search rules

pub returns-else-total : goal.returns-else-total
returns-else-total c = search rules
