use Rattle.history_laws.proofs.Chain.{seen-law}
use Rattle.history_laws.proofs.history.prove_history.Goals as goal

pub returns : goal.returns
returns c = seen-law
