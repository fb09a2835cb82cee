use Rattle.std.proofs.Common.{◌≡◌, ◌++◌, map}
use Rattle.init_ends.specs.Ends.{setup_by}
use Rattle.world_runs.specs.Objects.{Ready, stage_means}
use Rattle.world_runs.proofs.world.ready.Given as goal

abbrev pub invariant-loop-own : goal.invariant-loop-own
invariant-loop-own g l =
    (goal.iterator-loop-own g).can_next l.own-iterator ×
    (goal.iterator-loop-own g).is_finite l.own-iterator ×
    (map (λ o. Ready o) (map (λ o. setup_by o (λ b. (goal.Mech-dyn g b).meaning b.1)) l.fn.initiators.items)
    ≡ map (λ s. stage_means s (λ b. (goal.Mech-dyn g b).meaning b.1)) l.stages.items ++ map (λ o. Ready o) (map (λ o. setup_by o (λ b. (goal.Mech-dyn g b).meaning b.1)) l.own-iterator.rest.items))
