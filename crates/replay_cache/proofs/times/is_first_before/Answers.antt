use Rattle.std.proofs.lemmas.Bool.{ltb-false}
use Rattle.replay_cache.proofs.Heaping.{all-late}
use Rattle.replay_cache.proofs.times.is_first_before.Goals as goal

pub returns-then-heap-gt0-clause-late : goal.returns-then-heap-gt0-clause-late
returns-then-heap-gt0-clause-late c = λ from_. all-late c.args.heap.now c.args.floor c.requires (λ _. ltb-false _ _ from_)
