use Rattle.init_ends.proofs.PlainSteps.{plain_law}
use Rattle.init_ends.proofs.laws.prove_plain_law.Goals as goal

pub returns : goal.returns
returns c = plain_law
