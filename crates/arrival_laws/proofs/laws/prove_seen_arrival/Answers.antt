use Rattle.arrival_laws.proofs.SeenFirsts.{seen-arrival}
use Rattle.arrival_laws.proofs.laws.prove_seen_arrival.Goals as goal

pub returns : goal.returns
returns c = seen-arrival
