use Rattle.std.proofs.Common.{◌≡◌, map}
use Rattle.drill_plan.specs.Sessions.{blank_objects}
use Rattle.world_tables.specs.contracts.drills.status_by.{dyn-1-ghosts}
use Rattle.world_tables.proofs.drills.status_of.OwnLists.{own-1, lawful-own-1}
use Rattle.world_tables.proofs.drills.status_of.Given as goal

abbrev pub invariant-loop-number : goal.invariant-loop-number
invariant-loop-number l = map (λ b. ((dyn-1-ghosts (own-1, lawful-own-1)).0.entry b.vtable).1.meaning b.value) l.mechs.items ≡ blank_objects l.number
