use Rattle.std.proofs.Common.{rules}
use Rattle.ap_exchange.proofs.names.same_principal.Goals as goal

pub returns-then-same_realm : goal.returns-then-same_realm
returns-then-same_realm c = search rules

pub returns-else-same_realm : goal.returns-else-same_realm
returns-else-same_realm c = search rules
