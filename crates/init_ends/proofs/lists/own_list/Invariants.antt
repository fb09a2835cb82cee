use Rattle.std.proofs.Common.{◌≡◌, ◌++◌, map, drop}
use Rattle.init_ends.specs.Objects.{oids_of}
use Rattle.init_ends.proofs.lists.own_list.Given as goal

abbrev pub invariant-loop-object : goal.invariant-loop-object
invariant-loop-object g l =
    oids_of (map (λ b. (goal.Mech-dyn g (b.vtable, b.value)).meaning b.value) l.list) ≡ l.found.items ++ oids_of (map (λ b. (goal.Mech-dyn g (b.vtable, b.value)).meaning b.value) (drop l.object-index l.list))
