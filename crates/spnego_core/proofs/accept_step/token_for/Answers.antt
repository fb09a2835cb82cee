use Rattle.std.proofs.Common.{rules}
use Rattle.spnego_core.proofs.accept_step.token_for.Goals as goal

pub returns-then-first : goal.returns-then-first
returns-then-first c = search rules

pub returns-else-first : goal.returns-else-first
returns-else-first c = search rules
