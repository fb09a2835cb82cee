use Rattle.std.proofs.Common.{◌∙◌}
use Rattle.replay_cache.proofs.Caching.{times-length}
use Rattle.replay_cache.proofs.cache.Cache.held.Goals as goal

pub returns : goal.returns
returns c =
    rw (← c.self.view_is) (c.len.ensures
    ∙ times-length c.self.inside.capacity c.self.inside.greatest c.self.inside.taken c.self.inside.cells.items c.self.inside.times c.self.invariant.counted)
