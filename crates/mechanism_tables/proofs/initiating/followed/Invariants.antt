use Rattle.std.proofs.Common.{◌≡◌, IfSome, true}
use Rattle.init_ends.specs.Ends.{end_by, holds}
use Rattle.mechanism_tables.proofs.initiating.followed.Given as goal

abbrev pub invariant-loop-part : goal.invariant-loop-part
invariant-loop-part g l =
    (goal.iterator-loop-part g).can_next l.part-iterator × (goal.iterator-loop-part g).is_finite l.part-iterator ×
    IfSome l.next (λ e. holds (end_by e (λ b. (goal.Mech-dyn g b).meaning b.1)) ≡ true)
