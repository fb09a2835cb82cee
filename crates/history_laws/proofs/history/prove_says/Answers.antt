use Rattle.history_laws.proofs.Says.{says}
use Rattle.history_laws.proofs.history.prove_says.Goals as goal

pub returns : goal.returns
returns c = says
