use Rattle.std.proofs.Common.{rules}
use Rattle.spnego_core.proofs.accept_step.mic_judged.Goals as goal

pub returns-then-right : goal.returns-then-right
returns-then-right c = search rules

pub returns-else-right : goal.returns-else-right
returns-else-right c = search rules
