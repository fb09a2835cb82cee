use Rattle.std.proofs.Common.{rules}
use Rattle.spnego_core.specs.Accepting.{begins}
use Rattle.spnego_core.proofs.accept_step.begins.Goals as goal

pub returns-in_default-clause-exact : goal.returns-in_default-clause-exact
unfolding begins
returns-in_default-clause-exact c = search rules

pub returns-clause-exact : goal.returns-clause-exact
unfolding begins
returns-clause-exact c = search rules
