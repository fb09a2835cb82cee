use Rattle.pair_laws.proofs.Creations.{creation-runs}
use Rattle.pair_laws.proofs.laws.prove_creations.Goals as goal

pub returns : goal.returns
returns c = creation-runs
