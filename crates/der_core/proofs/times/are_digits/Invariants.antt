use Rattle.std.proofs.Common.{◌≡◌, drop}
use Rattle.der_core.specs.Time.{are_digits}
use Rattle.der_core.proofs.times.are_digits.Given as goal

abbrev pub invariant-loop-octet : goal.invariant-loop-octet
invariant-loop-octet l = are_digits (drop l.octet-index l.octets) ≡ are_digits l.octets
