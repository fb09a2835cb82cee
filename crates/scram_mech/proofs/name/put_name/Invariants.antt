use Rattle.std.proofs.Common.{◌≡◌, ◌++◌, drop}
use Rattle.scram_mech.specs.Name.{escaped}
use Rattle.scram_mech.proofs.name.put_name.Given as goal

abbrev pub invariant-loop-octet : goal.invariant-loop-octet
invariant-loop-octet l = l.text.items ++ escaped (drop l.octet-index l.name) ≡ l.fn.text.items ++ escaped l.fn.name
