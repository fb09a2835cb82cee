use Rattle.std.proofs.Common.{rules}
use Rattle.scram_bindings.proofs.carried.is_bound.Goals as goal

pub returns-in-Some : goal.returns-in-Some
returns-in-Some c = search rules
