use Rattle.pair_laws.proofs.Linked.{linked-done}
use Rattle.pair_laws.proofs.laws.prove_links.Goals as goal

pub returns : goal.returns
returns c = linked-done c.of-answers.result c.of-calls.result c.args.key.now c.of-answers.ensures c.of-calls.ensures
