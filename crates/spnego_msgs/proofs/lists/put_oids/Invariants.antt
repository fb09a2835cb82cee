use Rattle.std.proofs.Common.{◌≡◌, ◌++◌, drop}
use Rattle.der_core.specs.Fields.{many_spelling, many_fit}
use Rattle.der_core.specs.Values.{object_identifier}
use Rattle.spnego_msgs.proofs.lists.put_oids.Given as goal

abbrev pub invariant-loop-oid : goal.invariant-loop-oid
invariant-loop-oid l = record {
  spelled : l.out ++ many_spelling object_identifier (drop l.oid-index l.list) ≡ l.fn.out ++ many_spelling object_identifier l.list;
  fit : many_fit object_identifier (drop l.oid-index l.list) ≡ many_fit object_identifier l.list;
}
