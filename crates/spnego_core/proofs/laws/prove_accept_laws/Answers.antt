use Rattle.spnego_core.proofs.AcceptSteps.{accept_steps}
use Rattle.spnego_core.proofs.AcceptReasons.{accept_reasons}
use Rattle.spnego_core.proofs.laws.prove_accept_laws.Goals as goal

pub returns : goal.returns
returns c = record { steps = accept_steps; reasons = accept_reasons }
