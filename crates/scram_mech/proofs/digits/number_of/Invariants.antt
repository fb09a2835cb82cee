use Rattle.std.proofs.Common.{◌≡◌, ◌<◌, ◌^◌, drop}
use Rattle.scram_mech.specs.Digits.{number_behind}
use Rattle.scram_mech.proofs.digits.number_of.Given as goal

abbrev pub invariant-loop-digit : goal.invariant-loop-digit
invariant-loop-digit l = record {
  value : number_behind l.number (drop l.digit-index l.digits) ≡ number_behind 0 l.fn.digits;
  small : l.number < 10 ^ l.digit-index;
}
