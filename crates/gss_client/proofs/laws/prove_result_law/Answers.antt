use Rattle.gss_client.proofs.ResultStands.{result-law}
use Rattle.gss_client.proofs.laws.prove_result_law.Goals as goal

pub returns : goal.returns
returns c = result-law
