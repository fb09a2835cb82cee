use Rattle.std.proofs.Common.{arith}
use Rattle.seq_window.proofs.Marking.{whole-clear}
use Rattle.seq_window.proofs.window.Window.new.Goals as goal

pub invariant_of-result : goal.invariant_of-result
invariant_of-result c = whole-clear c.args.width c.loop.words.items c.requires.some c.requires.bounded (omega arith) c.loop.invariant.clear
