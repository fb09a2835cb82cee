use Rattle.std.proofs.Common.{rules}
use Rattle.init_ends.proofs.step.switches.Goals as goal

pub returns-clause-exact : goal.returns-clause-exact
returns-clause-exact g c = search rules
