use Rattle.std.proofs.Common.{◌≡◌, drop}
use Rattle.cli_base.specs.Numbers.{are_digits}
use Rattle.drill_plan.proofs.numbers.are_digits.Given as goal

abbrev pub invariant-loop-octet : goal.invariant-loop-octet
invariant-loop-octet l = are_digits (drop l.octet-index l.text) ≡ are_digits l.fn.text
