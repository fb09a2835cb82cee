use Rattle.std.proofs.Common.{◌≡◌, ◌+◌, length, take}
use Rattle.replay_journal.proofs.memory.torn_to.Given as goal

abbrev pub invariant-loop : goal.invariant-loop
invariant-loop l = (take l.at l.torn.items ≡ take l.at l.image) × (length l.torn.items ≡ l.at + l.counter)
