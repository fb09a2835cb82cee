use Rattle.pair_laws.proofs.Linked.{created-law}
use Rattle.pair_laws.proofs.laws.prove_created.Goals as goal

pub returns : goal.returns
returns c = created-law
