use Rattle.std.proofs.Common.{◌≡◌, ◌<◌, drop}
use Rattle.der_numbers.specs.Number.{natural_of, natural_behind}
use Rattle.der_numbers.proofs.OctetByOctet.{bound}
use Rattle.der_numbers.proofs.numbers.number_of.Given as goal

abbrev pub invariant-loop-octet : goal.invariant-loop-octet
invariant-loop-octet l = record {
  read : natural_behind l.number (drop l.octet-index l.octets) ≡ natural_of l.octets;
  within : l.number < bound l.octet-index;
}
