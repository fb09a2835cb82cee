use Rattle.sasl_layer.proofs.Sizes.{carried_long}
use Rattle.sasl_layer.proofs.Lines.{next_law, first_law}
use Rattle.sasl_layer.proofs.Runs.{front_law}
use Rattle.sasl_layer.proofs.laws.prove_laws.Goals as goal

pub returns : goal.returns
returns c = record { long = carried_long; next = next_law; first = first_law; front = front_law }
