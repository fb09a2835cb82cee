use Rattle.std.proofs.Common.{◌≡◌, drop}
use Rattle.init_ends.specs.Objects.{are_oids}
use Rattle.init_ends.proofs.lists.tell_oids.Given as goal

abbrev pub invariant-loop-oid : goal.invariant-loop-oid
invariant-loop-oid l = are_oids l.list ≡ are_oids (drop l.oid-index l.list)
