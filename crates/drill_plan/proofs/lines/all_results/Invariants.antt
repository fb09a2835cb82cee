use Rattle.std.proofs.Common.{◌≡◌, ◌++◌, drop}
use Rattle.drill_plan.specs.Lines.{all_results}
use Rattle.drill_plan.proofs.lines.all_results.Given as goal

abbrev pub invariant-loop-one : goal.invariant-loop-one
invariant-loop-one l = l.out.items ++ all_results (drop l.one-index l.sessions) ≡ all_results l.fn.sessions
