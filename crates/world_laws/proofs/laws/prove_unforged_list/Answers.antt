use Rattle.world_laws.proofs.ListsMet.{unforged-list}
use Rattle.world_laws.proofs.laws.prove_unforged_list.Goals as goal

pub returns : goal.returns
returns c = unforged-list c.tell_below.ensures
