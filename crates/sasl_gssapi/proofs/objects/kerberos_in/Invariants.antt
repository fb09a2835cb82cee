use Rattle.std.proofs.Common.{◌≡◌, map, true}
use Rattle.sasl_gssapi.specs.Objects.{kerberos_in, all_fresh}
use Rattle.sasl_gssapi.proofs.objects.kerberos_in.Given as goal

abbrev pub invariant-loop-object : goal.invariant-loop-object
invariant-loop-object g l =
    (goal.iterator-loop-object g).can_next l.object-iterator ×
    (goal.iterator-loop-object g).is_finite l.object-iterator ×
    (all_fresh (map (λ b. (goal.Mech-dyn g (b.vtable, b.value)).meaning b.value) l.object-iterator.rest.items) ≡ true) ×
    (kerberos_in (map (λ b. (goal.Mech-dyn g (b.vtable, b.value)).meaning b.value) l.fn.list.items) ≡ kerberos_in (map (λ b. (goal.Mech-dyn g (b.vtable, b.value)).meaning b.value) l.object-iterator.rest.items))
