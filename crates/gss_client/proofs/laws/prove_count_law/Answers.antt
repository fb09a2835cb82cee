use Rattle.gss_client.proofs.AnyCount.{count-law}
use Rattle.gss_client.proofs.laws.prove_count_law.Goals as goal

pub returns : goal.returns
returns c = count-law
