use Rattle.std.proofs.Common.{◌≡◌, ◌≤◌, ◌+◌, drop}
use Rattle.drill_plan.specs.Lines.{record_count}
use Rattle.drill_plan.proofs.lines.count_records.Given as goal

abbrev pub invariant-loop-entry : goal.invariant-loop-entry
invariant-loop-entry l = record {
  sum : l.count + record_count (drop l.entry-index l.entries) ≡ record_count l.fn.entries;
  small : l.count ≤ l.entry-index;
}
