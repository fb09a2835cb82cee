use Rattle.history_laws.proofs.InPlace.{in-place}
use Rattle.history_laws.proofs.history.prove_receipts.Goals as goal

pub returns : goal.returns
returns c = in-place
