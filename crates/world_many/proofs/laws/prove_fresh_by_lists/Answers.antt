use Rattle.world_many.proofs.ByLists.{fresh-by-lists}
use Rattle.world_many.proofs.laws.prove_fresh_by_lists.Goals as goal

pub returns : goal.returns
returns c = fresh-by-lists c.tell_below.ensures
