use Rattle.std.proofs.Common.{arith}
use Rattle.replay_cache.specs.Cells.{next_turn}
use Rattle.replay_cache.proofs.Caching.{empty-cache, empty-held}
use Rattle.replay_cache.proofs.cache.Cache.new.Goals as goal

pub invariant_of-result : goal.invariant_of-result
invariant_of-result c =
    empty-cache c.args.capacity c.args.start c.in_ok-cells.cells.items c.in_ok-reaches.reaches.items c.in_ok-times.times c.requires.some c.requires.bounded
    (omega (arith, c.in_ok-cells.ensures.count)) (omega (arith, c.in_ok-reaches.ensures.count)) c.in_ok-cells.ensures.empty c.in_ok-cells.ensures.early c.in_ok-reaches.ensures.none
    c.in_ok-times.ensures.room c.in_ok-times.ensures.empty

pub returns-clause-holds : goal.returns-clause-holds
returns-clause-holds c = record { kept = empty-held c.args.start (next_turn c.args.start 0) c.in_ok-cells.cells.items c.in_ok-cells.ensures.empty }
