use Rattle.world_laws.proofs.ListLaw.{known-list}
use Rattle.world_laws.proofs.laws.prove_known_list.Goals as goal

pub returns : goal.returns
returns c = known-list c.tell_below.ensures
