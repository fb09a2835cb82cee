use Rattle.std.proofs.Common.{take}
use Rattle.replay_journal.specs.Images.{MayLeave}
use Rattle.replay_journal.proofs.memory.image_of.Given as goal

abbrev pub invariant-loop-range : goal.invariant-loop-range
invariant-loop-range l = MayLeave l.base (take l.range-index l.ranges) l.image.items
