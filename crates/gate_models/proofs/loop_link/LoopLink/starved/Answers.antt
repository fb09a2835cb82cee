use Rattle.std.proofs.Common.{rules}
use Rattle.gate_models.proofs.loop_link.LoopLink.starved.Goals as goal

pub returns : goal.returns
returns g c = search rules
