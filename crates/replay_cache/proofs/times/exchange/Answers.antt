use Rattle.replay_cache.proofs.Heaping.{exchanged}
use Rattle.replay_cache.proofs.times.exchange.Goals as goal

pub returns : goal.returns
returns c = exchanged c.args.heap.now c.args.a c.args.b c.requires.order c.requires.inside
