use Rattle.std.proofs.Common.{rules}
use Rattle.init_ends.proofs.step.talk_after.Goals as goal

pub returns : goal.returns
returns c = search rules
