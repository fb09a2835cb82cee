use Rattle.std.proofs.Common.{◌≡◌, ◌++◌, drop}
use Rattle.world_tables.proofs.begun.copies.Given as goal

abbrev pub invariant-loop-cred : goal.invariant-loop-cred
invariant-loop-cred l = l.copies.items ++ drop l.cred-index l.list ≡ l.list
