use Rattle.std.proofs.Common.{◌≡◌, ◌≤◌, ◌+◌, ◌*◌, drop}
use Rattle.drill_plan.specs.Lines.{result_count}
use Rattle.drill_plan.proofs.lines.count_results.Given as goal

abbrev pub invariant-loop-one : goal.invariant-loop-one
invariant-loop-one l = record {
  sum : l.count + result_count (drop l.one-index l.sessions) ≡ result_count l.fn.sessions;
  small : l.count ≤ l.one-index * 18446744073709551615;
}
