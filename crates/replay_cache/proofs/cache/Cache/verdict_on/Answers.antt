use Rattle.std.proofs.Common.{◌≡◌, ◌<◌, ◌≤◌, length, false, sym, ◌∙◌, arith}
use Rattle.replay_cache.specs.Taking.{is_stale}
use Rattle.replay_cache.proofs.Caching.{times-length, taken-from, full-from, not-stale}
use Rattle.replay_cache.proofs.cache.Cache.verdict_on.Goals as goal

pub returns-then-len-self-clause-room : goal.returns-then-len-self-clause-room
returns-then-len-self-clause-room c = λ _.
    rw (← c.self.view_is) (omega (
      arith,
      c.len.ensures,
      c.if-len-self.true,
      times-length c.self.inside.capacity c.self.inside.greatest c.self.inside.taken c.self.inside.cells.items c.self.inside.times c.self.invariant.counted,
    ))

pub returns-then-len-self-clause-verdict : goal.returns-then-len-self-clause-verdict
returns-then-len-self-clause-verdict c =
    let room : length c.args.self.now.held < c.args.self.now.capacity
    = rw (← c.self.view_is) (omega (
      arith,
      c.len.ensures,
      c.if-len-self.true,
      times-length c.self.inside.capacity c.self.inside.greatest c.self.inside.taken c.self.inside.cells.items c.self.inside.times c.self.invariant.counted,
    )) in
    let near : is_stale c.args.self.now.greatest c.args.mark.now ≡ false
    = rw (← c.self.view_is) (not-stale c.self.inside.greatest c.args.mark.now (omega arith) (omega arith)) in
    λ taken holds. taken-from c.args.self.now taken c.args.mark.now holds near (sym c.in-None.is ∙ c.find.ensures) room

pub returns-else-len-self-clause-verdict : goal.returns-else-len-self-clause-verdict
returns-else-len-self-clause-verdict c =
    let full : c.args.self.now.capacity ≤ length c.args.self.now.held
    = rw (← c.self.view_is) (omega (
      arith,
      c.len.ensures,
      c.if-len-self.false,
      times-length c.self.inside.capacity c.self.inside.greatest c.self.inside.taken c.self.inside.cells.items c.self.inside.times c.self.invariant.counted,
    )) in
    let near : is_stale c.args.self.now.greatest c.args.mark.now ≡ false
    = rw (← c.self.view_is) (not-stale c.self.inside.greatest c.args.mark.now (omega arith) (omega arith)) in
    λ taken holds. full-from c.args.self.now taken c.args.mark.now holds near (sym c.in-None.is ∙ c.find.ensures) full
