use Rattle.replay_journal.specs.Images.{MayLeave}
use Rattle.replay_journal.proofs.Stages.{elapses-stage}
use Rattle.replay_journal.proofs.memory.MemDiskDisk.sync.Goals as goal

pub returns-in-Ok-clause-time : goal.returns-in-Ok-clause-time
returns-in-Ok-clause-time c =
    rw (← c.fails.ensures.past, ← c.fails.ensures.stage) (elapses-stage c.fails.new.self.past.items c.settle.new.past.items c.fails.new.self.stage (MayLeave c.settle.new.stage.base.items c.settle.new.stage.ranges.items) c.in-Ok.ensures.past)
