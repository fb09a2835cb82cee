use Rattle.sasl_pair.proofs.Events.{sasl_pair, history_law}
use Rattle.sasl_pair.proofs.laws.prove_pair.Goals as goal

pub returns-clause-history : goal.returns-clause-history
returns-clause-history c = history_law

pub returns-clause-pair : goal.returns-clause-pair
returns-clause-pair c = sasl_pair
