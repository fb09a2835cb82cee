use Rattle.world_laws.proofs.Headlines.{headline}
use Rattle.world_laws.proofs.laws.prove_headline.Goals as goal

pub returns : goal.returns
returns c = headline c.tell_below.ensures
