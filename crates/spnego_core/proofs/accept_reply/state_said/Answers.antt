use Rattle.std.proofs.Common.{rules}
use Rattle.spnego_core.proofs.accept_reply.state_said.Goals as goal

pub returns-then-owes : goal.returns-then-owes
returns-then-owes c = search rules
