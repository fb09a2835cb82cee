use Rattle.std.proofs.Common.{rules}
use Rattle.ap_exchange.proofs.judge.is_bound.Goals as goal

pub returns-in-Some : goal.returns-in-Some
returns-in-Some c = search rules
