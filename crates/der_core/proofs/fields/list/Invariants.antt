use Rattle.std.proofs.Common.{◌≡◌, ◌-◌}
use Rattle.der_core.specs.Fields.{many_of}
use Rattle.der_core.proofs.Lists.{with_front}
use Rattle.der_core.proofs.fields.list.Given as goal

abbrev pub invariant-loop : goal.invariant-loop
invariant-loop g l = with_front l.list.items (many_of g.T.Element.format (l.count - l.counter) l.content) ≡ many_of g.T.Element.format l.count l.fn.content
