use Rattle.std.proofs.Common.{◌≡◌, ◌++◌, drop}
use Rattle.der_core.specs.Fields.{many_spelling, many_fit}
use Rattle.der_core.proofs.fields.put_list.Given as goal

abbrev pub invariant-loop-value : goal.invariant-loop-value
invariant-loop-value g l = record {
  spelled : l.out ++ many_spelling g.T.Element.format (drop l.value-index l.list) ≡ l.fn.out ++ many_spelling g.T.Element.format l.list;
  fit : many_fit g.T.Element.format (drop l.value-index l.list) ≡ many_fit g.T.Element.format l.list;
}
