use Rattle.std.proofs.Common.{◌≡◌, drop}
use Rattle.gss_base.specs.Principal.{zero_from}
use Rattle.gss_base.proofs.principal.zero_in.Given as goal

abbrev pub invariant-loop-at : goal.invariant-loop-at
invariant-loop-at l = zero_from l.at (drop l.at l.octets) ≡ zero_from 0 l.octets
