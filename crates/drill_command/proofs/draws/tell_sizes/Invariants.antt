use Rattle.std.proofs.Common.{◌≡◌, ◌*◌, length, take}
use Rattle.gate_models.specs.Looping.{drawn_in}
use Rattle.drill_command.proofs.draws.tell_sizes.Given as goal

abbrev pub invariant-loop-one : goal.invariant-loop-one
invariant-loop-one l = length (drawn_in (take l.one-index l.kept)) ≡ 82 * l.one-index
