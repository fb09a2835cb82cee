use Rattle.std.proofs.Common.{◌≡◌, ap, ◌∙◌, arith}
use Rattle.std.proofs.lemmas.List.{with_items_is}
use Rattle.std.specs.Vec.{with_items}
use Rattle.replay_cache.specs.Tally.{late}
use Rattle.replay_cache.proofs.Heaping.{grown, late-more}
use Rattle.replay_cache.proofs.times.Times.put.Goals as goal

pub rise-requires : goal.rise-requires
rise-requires c =
    rw (c.deref_mut.ensures.value, c.push_reserved.ensures.items) (grown c.self.inside.heap.items c.args.at _ c.self.invariant.0
    (omega (arith, c.len-place.ensures, c.push_reserved.ensures.len)))

pub invariant_of-self : goal.invariant_of-self
invariant_of-self c =
    let written : (with_items c.push_reserved.new.self c.rise.new.heap).items ≡ c.rise.new.heap
    = with_items_is c.push_reserved.new.self c.rise.new.heap (omega (arith, c.rise.auto.heap, c.deref_mut.ensures.len)) in
    (rw written c.rise.ensures.heap, omega (arith, c.self.invariant.1, c.push_reserved.ensures.capacity))

pub returns-clause-counted : goal.returns-clause-counted
returns-clause-counted c =
    let written : (with_items c.push_reserved.new.self c.rise.new.heap).items ≡ c.rise.new.heap
    = with_items_is c.push_reserved.new.self c.rise.new.heap (omega (arith, c.rise.auto.heap, c.deref_mut.ensures.len)) in
    rw (← c.self.view_is) (λ moment.
    ap (late moment) written
    ∙ c.rise.ensures.same moment
    ∙ ap (late moment) (c.deref_mut.ensures.value ∙ c.push_reserved.ensures.items)
    ∙ late-more moment c.self.inside.heap.items c.args.at)
