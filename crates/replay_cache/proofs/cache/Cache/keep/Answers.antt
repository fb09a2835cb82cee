use Rattle.std.proofs.Common.{◌≡◌, length, arith}
use Rattle.replay_cache.specs.Cells.{next_turn}
use Rattle.replay_cache.proofs.Turning.{length-before}
use Rattle.replay_cache.proofs.Caching.{times-length, cache-more, held-more}
use Rattle.replay_cache.proofs.cache.Cache.keep.Goals as goal

pub free_step-step-requires-clause-some : goal.free_step-step-requires-clause-some
free_step-step-requires-clause-some c =
    let asked = rw (← c.self.view_is) at c.requires in
    rw c.deref-2.ensures.value (omega (
      arith,
      asked.room,
      c.self.invariant.enough,
      length-before c.self.inside.greatest c.self.inside.cells.items (next_turn c.self.inside.greatest c.self.inside.taken) c.self.invariant.counted.turns,
    ))

pub put-requires : goal.put-requires
put-requires c =
    let asked = rw (← c.self.view_is) at c.requires in
    omega (
      arith,
      asked.room,
      c.self.invariant.counted.room,
      times-length c.self.inside.capacity c.self.inside.greatest c.self.inside.taken c.self.inside.cells.items c.self.inside.times c.self.invariant.counted,
    )

pub invariant_of-self : goal.invariant_of-self
invariant_of-self c =
    let asked = rw (← c.self.view_is) at c.requires in
    let count : c.len-count.result ≡ length c.self.inside.cells.items = omega (arith, c.len-count.ensures) in
    let home = rw count at c.home_place-home.ensures.value in
    let covers = rw c.deref.ensures.value at c.needed_reach-needed.ensures.covers in
    let free = rw c.deref-2.ensures.value at c.free_step-step.ensures in
    let place = rw count at c.place_at.ensures.value in
    let counted = rw c.total.ensures.value at c.put.ensures.counted in
    cache-more c.self.inside.capacity c.self.inside.greatest c.self.inside.taken c.self.inside.cells.items c.self.inside.reaches.items c.self.inside.times c.put.new.self
    c.home_place-home.result c.index.result.now c.needed_reach-needed.result c.free_step-step.result c.place_at.result c.max.result c.args.mark c.args.place
    c.self.invariant home (omega (arith, c.home_place-home.ensures.inside, c.len-count.ensures)) c.index.ensures c.needed_reach-needed.ensures.less covers
    free.inside free.free place (omega (arith, c.place_at.ensures.inside, c.len-count.ensures)) c.max.ensures asked.new asked.near asked.room
    c.put.ensures.room c.put.ensures.more counted

pub returns-clause-held : goal.returns-clause-held
returns-clause-held c =
    let asked = rw (← c.self.view_is) at c.requires in
    let free = rw c.deref-2.ensures.value at c.free_step-step.ensures in
    let count : c.len-count.result ≡ length c.self.inside.cells.items = omega (arith, c.len-count.ensures) in
    let place = rw count at c.place_at.ensures.value in
    rw (← c.self.view_is) (held-more c.self.inside.capacity c.self.inside.greatest c.self.inside.taken c.self.inside.cells.items c.self.inside.reaches.items c.self.inside.times
    c.home_place-home.result c.free_step-step.result c.place_at.result c.args.mark c.args.place
    c.self.invariant free.free place (omega (arith, c.place_at.ensures.inside, c.len-count.ensures)) asked.near)
