use Rattle.std.proofs.Common.{◌≡◌, ◌-◌, ◌<◌, arith}
use Rattle.replay_cache.specs.Taking.{skew}
use Rattle.replay_cache.proofs.Caching.{cache-later, held-later}
use Rattle.replay_cache.proofs.cache.Cache.raise.Goals as goal

pub invariant_of-self : goal.invariant_of-self
invariant_of-self c =
    let floor : c.saturating_sub.result ≡ c.args.now - skew = omega (arith, c.saturating_sub.ensures, c.total-then-total.ensures.value) in
    let later : c.self.inside.greatest < c.args.now = omega (arith, c.if-total.true, c.total.ensures.value, c.total-2.ensures.value) in
    let kept = rw floor at c.forget.ensures.kept in
    let late = rw floor at c.forget.ensures.late in
    cache-later c.self.inside.capacity c.self.inside.greatest c.args.now c.self.inside.taken c.self.inside.cells.items c.self.inside.reaches.items c.self.inside.times c.forget.new.self
    c.self.invariant later c.forget.ensures.room kept late

pub returns-then-total-clause-holds : goal.returns-then-total-clause-holds
returns-then-total-clause-holds c =
    let later : c.self.inside.greatest < c.args.now = omega (arith, c.if-total.true, c.total.ensures.value, c.total-2.ensures.value) in
    rw (← c.self.view_is) (λ taken holds. record {
      kept = held-later c.self.inside.capacity c.self.inside.greatest c.args.now c.self.inside.taken c.self.inside.cells.items c.self.inside.reaches.items c.self.inside.times
          taken c.self.invariant later holds.kept;
    })
