use Rattle.history_laws.proofs.Counts.{full-of-one}
use Rattle.history_laws.proofs.history.prove_full_of_one.Goals as goal

pub returns : goal.returns
returns c = full-of-one
