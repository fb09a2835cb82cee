use Rattle.std.proofs.Common.{rules}
use Rattle.seq_window.proofs.window.move_on.Goals as goal

pub returns-clause-cleared : goal.returns-clause-cleared
returns-clause-cleared c = search rules
