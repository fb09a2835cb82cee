use Rattle.std.proofs.Common.{◌≡◌, ◌++◌, drop}
use Rattle.scram_mech.specs.Name.{unescaped}
use Rattle.scram_mech.specs.declared.name.Escape.TheVariants.{Outside}
use Rattle.scram_mech.proofs.name.unescape.Given as goal

abbrev pub invariant-loop-octet : goal.invariant-loop-octet
invariant-loop-octet l = l.name.items ++ unescaped l.escape (drop l.octet-index l.octets) ≡ unescaped Outside l.fn.octets
