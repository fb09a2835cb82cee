use Rattle.std.proofs.Common.{◌≡◌, ◌++◌, drop}
use Rattle.drill_plan.specs.Lines.{joined}
use Rattle.drill_plan.proofs.lines.push_results.Given as goal

abbrev pub invariant-loop-octets : goal.invariant-loop-octets
invariant-loop-octets l = l.out.items ++ joined (drop l.octets-index l.results) ≡ l.fn.out.items ++ joined l.fn.results
