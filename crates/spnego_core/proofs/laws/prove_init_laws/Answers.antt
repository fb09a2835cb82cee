use Rattle.spnego_core.proofs.InitSteps.{init_starts, init_steps}
use Rattle.spnego_core.proofs.InitReasons.{start_reasons, init_reasons}
use Rattle.spnego_core.proofs.laws.prove_init_laws.Goals as goal

pub returns : goal.returns
returns c = record { starts = init_starts; steps = init_steps; start_reasons = start_reasons; step_reasons = init_reasons }
