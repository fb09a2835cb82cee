use Rattle.mech_objects.proofs.StandardTalks.{standard_laws}
use Rattle.mech_objects.proofs.laws.prove_standard.Goals as goal

pub returns : goal.returns
returns c = standard_laws
