use Rattle.server_laws.proofs.AllDesks.{of-all-desks}
use Rattle.server_laws.proofs.receipts.prove_receipts.Goals as goal

pub returns : goal.returns
returns g c = of-all-desks
