use Rattle.std.proofs.Common.{rules}
use Rattle.init_ends.proofs.lists.mech_for.Goals as goal

pub loop-object-preserved : goal.loop-object-preserved
loop-object-preserved g c = search rules

pub returns-then-named-clause-exact : goal.returns-then-named-clause-exact
returns-then-named-clause-exact g c = search rules
