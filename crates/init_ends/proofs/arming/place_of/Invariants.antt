use Rattle.std.proofs.Common.{◌≡◌, ◌+◌, true, map, drop}
use Rattle.init_ends.specs.Arming.{has_oid, place_of}
use Rattle.init_ends.proofs.arming.place_of.Given as goal

abbrev pub invariant-loop-place : goal.invariant-loop-place
invariant-loop-place g l =
    (place_of (map (λ b. (goal.Mech-dyn g (b.vtable, b.value)).meaning b.value) l.mechs) l.oid ≡ l.place + place_of (map (λ b. (goal.Mech-dyn g (b.vtable, b.value)).meaning b.value) (drop l.place l.mechs)) l.oid) ×
    (has_oid (map (λ b. (goal.Mech-dyn g (b.vtable, b.value)).meaning b.value) (drop l.place l.mechs)) l.oid ≡ true)
