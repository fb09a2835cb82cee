use Rattle.std.proofs.Common.{◌≡◌, ◌≤◌, ◌+◌, drop}
use Rattle.drill_plan.specs.Lines.{refused_count}
use Rattle.drill_plan.proofs.lines.count_refused.Given as goal

abbrev pub invariant-loop-one : goal.invariant-loop-one
invariant-loop-one l = record {
  sum : l.count + refused_count (drop l.one-index l.sessions) ≡ refused_count l.fn.sessions;
  small : l.count ≤ l.one-index;
}
