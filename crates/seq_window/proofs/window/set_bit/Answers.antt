use Rattle.std.proofs.Common.{rules}
use Rattle.seq_window.proofs.window.set_bit.Goals as goal

pub returns-clause-value : goal.returns-clause-value
returns-clause-value c = search rules
