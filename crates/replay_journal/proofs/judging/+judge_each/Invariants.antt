use Rattle.std.proofs.Common.{length}
use Rattle.replay_journal.proofs.judging.+judge_each.Given as goal

abbrev pub decreases-judge_each : goal.decreases-judge_each
decreases-judge_each l = length l.asked.now
