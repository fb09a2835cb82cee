use Rattle.pair_laws.proofs.Whole.{whole-done}
use Rattle.pair_laws.proofs.laws.prove_wholes.Goals as goal

pub returns : goal.returns
returns c = whole-done c.of-answers.result c.of-calls.result c.args.key.now c.of-answers.ensures c.of-calls.ensures
