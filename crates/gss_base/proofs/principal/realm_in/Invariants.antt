use Rattle.std.proofs.Common.{◌≡◌, ◌++◌, drop}
use Rattle.gss_base.proofs.Parting.{realm_from}
use Rattle.gss_base.specs.Signs.{realm_of}
use Rattle.gss_base.proofs.principal.realm_in.Given as goal

abbrev pub invariant-loop-sign : goal.invariant-loop-sign
invariant-loop-sign l = l.realm.items ++ realm_from l.behind (drop l.sign-index l.signs) ≡ realm_of l.signs
