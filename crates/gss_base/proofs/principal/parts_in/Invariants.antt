use Rattle.std.proofs.Common.{◌≡◌, ◌++◌, [], drop}
use Rattle.gss_base.specs.Signs.{parts_from}
use Rattle.gss_base.proofs.principal.parts_in.Given as goal

abbrev pub invariant-loop-sign : goal.invariant-loop-sign
invariant-loop-sign l = l.parts.items ++ parts_from l.part.items (drop l.sign-index l.signs) ≡ parts_from [] l.signs
