use Rattle.arrival_laws.proofs.Firsts.{first-arrival}
use Rattle.arrival_laws.proofs.laws.prove_first_arrival.Goals as goal

pub returns : goal.returns
returns c = first-arrival c.tell_below.ensures
