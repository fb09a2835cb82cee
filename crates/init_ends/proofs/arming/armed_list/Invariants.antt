use Rattle.std.proofs.Common.{◌≡◌, ◌++◌, map}
use Rattle.init_ends.specs.Arming.{AreBlank}
use Rattle.init_ends.specs.Plain.{fresh_of}
use Rattle.init_ends.proofs.Taking.{Armable}
use Rattle.init_ends.proofs.arming.armed_list.Given as goal

abbrev pub invariant-loop-cred : goal.invariant-loop-cred
invariant-loop-cred g l =
    (goal.iterator-loop-cred g).can_next l.cred-iterator ×
    (goal.iterator-loop-cred g).is_finite l.cred-iterator ×
    AreBlank (map (λ b. (goal.Mech-dyn g (b.vtable, b.value)).meaning b.value) l.mechs.items) ×
    Armable (map (λ b. (goal.Mech-dyn g (b.vtable, b.value)).meaning b.value) l.mechs.items) l.cred-iterator.rest.items ×
    (map (λ b. (goal.Mech-dyn g (b.vtable, b.value)).meaning b.value) l.list.items ++ map fresh_of l.cred-iterator.rest.items ≡ map fresh_of l.fn.creds)
