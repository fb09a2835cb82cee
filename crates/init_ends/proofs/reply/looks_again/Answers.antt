use Rattle.std.proofs.Common.{rules}
use Rattle.init_ends.proofs.reply.looks_again.Goals as goal

pub returns-then-completes-clause-exact : goal.returns-then-completes-clause-exact
returns-then-completes-clause-exact g c = search rules
