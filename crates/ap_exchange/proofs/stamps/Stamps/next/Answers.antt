use Rattle.std.proofs.Common.{rules}
use Rattle.ap_exchange.proofs.stamps.Stamps.next.Goals as goal

pub returns-clause-stamp : goal.returns-clause-stamp
returns-clause-stamp c = search rules
