use Rattle.std.proofs.Common.{◌≡◌, ◌-◌, ◌++◌, length}
use Rattle.drill_plan.specs.Generator.{octets_from, after_steps}
use Rattle.drill_command.proofs.calls.draw_octets.Given as goal

abbrev pub invariant-loop-number : goal.invariant-loop-number
invariant-loop-number l = record {
  value : l.octets.items ++ octets_from (l.count - l.number) l.generator.value ≡ octets_from l.fn.count l.fn.generator.value;
  place : after_steps (l.count - l.number) l.generator.value ≡ after_steps l.fn.count l.fn.generator.value;
  count : length l.octets.items ≡ l.number;
}
