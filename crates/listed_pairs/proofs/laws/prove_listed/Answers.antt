use Rattle.listed_pairs.proofs.Listed.{listed-first}
use Rattle.listed_pairs.proofs.laws.prove_listed.Goals as goal

pub returns : goal.returns
returns c = listed-first
