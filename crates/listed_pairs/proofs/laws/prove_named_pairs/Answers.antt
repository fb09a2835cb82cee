use Rattle.listed_pairs.proofs.NamedPairs.{begins, at_once, after_mics}
use Rattle.listed_pairs.proofs.laws.prove_named_pairs.Goals as goal

pub returns : goal.returns
returns c = record { begins = begins; at_once = at_once; after_mics = after_mics }
