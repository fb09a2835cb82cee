use Rattle.world_runs.specs.Worlds.{world_means, IsWorld}
use Rattle.world_tables.proofs.worlds.go_through.Given as goal

abbrev pub invariant-loop-part : goal.invariant-loop-part
invariant-loop-part g l =
    (goal.iterator-loop-part g).can_next l.part-iterator ×
    (goal.iterator-loop-part g).is_finite l.part-iterator ×
    IsWorld (world_means l.run.world (λ b. (goal.Mech-dyn g b).meaning b.1))
