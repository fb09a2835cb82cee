use Rattle.world_many.proofs.ManyRuns.{met-by-many}
use Rattle.world_many.proofs.laws.prove_met_by_many.Goals as goal

pub returns : goal.returns
returns c = met-by-many c.tell_below.ensures
