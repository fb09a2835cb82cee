use Rattle.std.proofs.Common.{◌≡◌, ◌++◌, drop}
use Rattle.gss_base.specs.Principal.{quoted}
use Rattle.gss_base.proofs.principal.push_quoted.Given as goal

abbrev pub invariant-loop-octet : goal.invariant-loop-octet
invariant-loop-octet l = l.out.items ++ quoted (drop l.octet-index l.text) ≡ l.fn.out.items ++ quoted l.text
