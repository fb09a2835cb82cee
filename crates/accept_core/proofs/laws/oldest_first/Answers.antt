use Rattle.accept_core.proofs.Uses.{oldest-first}
use Rattle.accept_core.proofs.laws.oldest_first.Goals as goal

pub returns : goal.returns
returns c = oldest-first
