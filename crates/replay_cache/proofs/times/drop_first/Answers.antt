use Rattle.std.proofs.Common.{◌≡◌, ◌+◌, ◌<◌, ℕ, List, length, get_or, nat_le, if◌then◌else◌, ap, ◌∙◌, arith}
use Rattle.std.proofs.lemmas.List.{with_items_is}
use Rattle.std.specs.Vec.{with_items}
use Rattle.replay_cache.specs.Tally.{late}
use Rattle.replay_cache.proofs.Heaping.{dropped}
use Rattle.replay_cache.proofs.times.drop_first.Goals as goal

pub returns-then-len-gt0-clause-counted : goal.returns-then-len-gt0-clause-counted
returns-then-len-gt0-clause-counted c =
    let written : (with_items c.pop.new.self c.put_first.new.heap).items ≡ c.put_first.new.heap
    = with_items_is c.pop.new.self c.put_first.new.heap (omega (arith, c.deref_mut.ensures.len)) in
    let some : 0 < length c.pop.new.self.items = omega (arith, c.if-len-gt0.true, c.len.ensures) in
    λ moment.
    ap (λ (l : List ℕ). late moment l + (if nat_le moment (get_or c.args.heap.now.items 0 0) then 1 else 0)) written
    ∙ dropped c.args.heap.now.items c.pop.new.self.items c.deref_mut.result.now c.put_first.new.heap c.in-Some.last moment
    c.deref_mut.ensures.value c.in-Some.ensures.items some (c.put_first.ensures.counted moment)
