use Rattle.std.proofs.Common.{◌≡◌, map}
use Rattle.drill_plan.specs.Sessions.{blank_objects}
use Rattle.gssrpcd_cli.specs.contracts.drill_by.{dyn-1-ghosts}
use Rattle.gssrpcd_cli.proofs.held.OwnLists.{own-1, lawful-own-1}
use Rattle.gssrpcd_cli.proofs.held.Given as goal

abbrev pub invariant-loop-number : goal.invariant-loop-number
invariant-loop-number l = map (λ b. ((dyn-1-ghosts (own-1, lawful-own-1)).0.entry b.vtable).1.meaning b.value) l.mechs.items ≡ blank_objects l.number
