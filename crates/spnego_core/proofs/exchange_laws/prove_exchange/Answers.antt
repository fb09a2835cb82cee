use Rattle.spnego_core.proofs.Exchanges.{exchanges}
use Rattle.spnego_core.proofs.exchange_laws.prove_exchange.Goals as goal

pub returns : goal.returns
returns c = exchanges
