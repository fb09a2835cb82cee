use Rattle.std.proofs.Common.{◌≡◌, drop}
use Rattle.der_core.specs.Values.{has_zero}
use Rattle.der_core.proofs.values.has_zero.Given as goal

abbrev pub invariant-loop-octet : goal.invariant-loop-octet
invariant-loop-octet l = has_zero (drop l.octet-index l.octets) ≡ has_zero l.octets
