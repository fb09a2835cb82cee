use Rattle.gss_client.proofs.PlainTurns.{plain_creation}
use Rattle.gss_client.proofs.laws.prove_plain_creation.Goals as goal

pub returns : goal.returns
returns c = plain_creation
