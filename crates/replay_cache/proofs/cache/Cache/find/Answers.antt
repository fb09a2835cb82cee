use Rattle.std.proofs.Common.{◌≡◌, length, arith}
use Rattle.replay_cache.specs.Cells.{next_turn}
use Rattle.replay_cache.proofs.Caching.{found-place, lost-place}
use Rattle.replay_cache.proofs.cache.Cache.find.Goals as goal

pub returns-in-Some : goal.returns-in-Some
returns-in-Some c =
    let found = rw c.deref.ensures.value at c.in-Some.ensures.found in
    rw (← c.self.view_is) (found-place c.self.inside.greatest (next_turn c.self.inside.greatest c.self.inside.taken) c.self.inside.cells.items c.self.inside.reaches.items c.args.mark.now
    c.in-Some.place c.index-in-Some.result.now c.self.invariant.indexed c.self.invariant.counted.turns found.0 found.1 c.index-in-Some.ensures)

pub returns-in-None : goal.returns-in-None
returns-in-None c =
    let none = rw c.deref.ensures.value at c.in-None.ensures.none in
    let count : c.len.result ≡ length c.self.inside.cells.items = omega (arith, c.len.ensures) in
    let home = rw count at c.home_place-home.ensures.value in
    rw (← c.self.view_is) (lost-place c.self.inside.greatest (next_turn c.self.inside.greatest c.self.inside.taken) c.home_place-home.result c.index.result.now c.self.inside.cells.items c.self.inside.reaches.items
    c.args.mark.now c.self.invariant.indexed home (omega (arith, c.home_place-home.ensures.inside, c.len.ensures)) c.index.ensures none)
