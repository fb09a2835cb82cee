use Rattle.std.proofs.Common.{arith}
use Rattle.init_ends.proofs.Starting.{one_more_oid}
use Rattle.init_ends.proofs.lists.own_list.Goals as goal

pub loop-object-preserved : goal.loop-object-preserved
loop-object-preserved g c =
    one_more_oid (λ b. (goal.Mech-dyn g (b.vtable, b.value)).meaning b.value) c.args.list.now c.loop-object.object-index c.object-item.result c.loop-object.found.items c.push.new.self.items c.oid_at.result (omega arith) c.object-item.is c.oid_at.ensures c.in_ok-push.ensures.items c.loop-object.invariant
