use Rattle.std.proofs.Common.{rules}
use Rattle.world_runs.proofs.meeting.is_completed.Goals as goal

pub returns-in-Completed : goal.returns-in-Completed
returns-in-Completed c = search rules
