use Rattle.std.proofs.Common.{◌≡◌, map, true}
use Rattle.init_ends.specs.Objects.{mech_for, all_fresh}
use Rattle.init_ends.proofs.lists.mech_for.Given as goal

abbrev pub invariant-loop-object : goal.invariant-loop-object
invariant-loop-object g l =
    (goal.iterator-loop-object g).can_next l.object-iterator ×
    (goal.iterator-loop-object g).is_finite l.object-iterator ×
    (all_fresh (map (λ b. (goal.Mech-dyn g (b.vtable, b.value)).meaning b.value) l.object-iterator.rest.items) ≡ true) ×
    (mech_for (map (λ b. (goal.Mech-dyn g (b.vtable, b.value)).meaning b.value) l.fn.list.items) l.oid ≡ mech_for (map (λ b. (goal.Mech-dyn g (b.vtable, b.value)).meaning b.value) l.object-iterator.rest.items) l.oid)
