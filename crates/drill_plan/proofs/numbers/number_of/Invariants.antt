use Rattle.std.proofs.Common.{◌≡◌, ◌<◌, ◌^◌, true, drop}
use Rattle.cli_base.specs.Numbers.{are_digits, number_of}
use Rattle.drill_plan.proofs.numbers.number_of.Given as goal

abbrev pub invariant-loop-digit : goal.invariant-loop-digit
invariant-loop-digit l = record {
  value : number_of l.number (drop l.digit-index l.digits) ≡ number_of 0 l.fn.digits;
  digits : are_digits (drop l.digit-index l.digits) ≡ true;
  small : l.number < 10 ^ l.digit-index;
}
