use Rattle.honest_calls.proofs.HonestCalls.{honest-calls}
use Rattle.honest_calls.proofs.laws.prove_honest_calls.Goals as goal

pub returns : goal.returns
returns c = honest-calls
