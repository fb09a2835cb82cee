use Rattle.std.proofs.Common.{rules}
use Rattle.init_ends.proofs.reply.looks.Goals as goal

pub returns-in_ok-step-in-None-clause-exact : goal.returns-in_ok-step-in-None-clause-exact
returns-in_ok-step-in-None-clause-exact g c = search rules
