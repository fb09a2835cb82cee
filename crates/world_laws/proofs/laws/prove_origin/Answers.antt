use Rattle.world_laws.proofs.Origin.{origin-law}
use Rattle.world_laws.proofs.laws.prove_origin.Goals as goal

pub returns : goal.returns
returns c = origin-law c.tell_below.ensures
