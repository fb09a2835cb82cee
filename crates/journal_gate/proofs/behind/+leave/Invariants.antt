use Rattle.std.proofs.Common.{length}
use Rattle.journal_gate.proofs.behind.+leave.Given as goal

abbrev pub decreases-leave : goal.decreases-leave
decreases-leave l = length l.asked.now
