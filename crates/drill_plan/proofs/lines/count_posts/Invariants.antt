use Rattle.std.proofs.Common.{◌≡◌, ◌≤◌, ◌+◌, drop}
use Rattle.drill_plan.specs.Lines.{post_count}
use Rattle.drill_plan.proofs.lines.count_posts.Given as goal

abbrev pub invariant-loop-entry : goal.invariant-loop-entry
invariant-loop-entry l = record {
  sum : l.count + post_count (drop l.entry-index l.entries) ≡ post_count l.fn.entries;
  small : l.count ≤ l.entry-index;
}
