use Rattle.accept_core.proofs.Uses.{ids-rise}
use Rattle.accept_core.proofs.laws.ids_rise.Goals as goal

pub returns : goal.returns
returns c = ids-rise
