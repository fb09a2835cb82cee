use Rattle.init_ends.proofs.EndSteps.{end_laws}
use Rattle.init_ends.proofs.laws.prove_end_laws.Goals as goal

pub returns : goal.returns
returns c = end_laws
