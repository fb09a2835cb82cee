use Rattle.honest_calls.proofs.HonestCalls.{honest-calls}
use Rattle.world_laws.proofs.Arriving.{arrival}
use Rattle.arrival_laws.proofs.laws.prove_arrival_in_hand.Goals as goal

pub returns : goal.returns
returns c = λ lease key. arrival lease (honest-calls lease key)
