use Rattle.pair_laws.proofs.Opening.{step-turn}
use Rattle.pair_laws.proofs.laws.prove_step_turns.Goals as goal

pub returns : goal.returns
returns c = step-turn
