use Rattle.std.proofs.Common.{◌≡◌, ◌≤◌, ◌+◌, ◌*◌, drop}
use Rattle.std.specs.List.{AllByRecursion}
use Rattle.server_desks.specs.Desks.{IsSmall, all_records}
use Rattle.server_desks.proofs.desks.count_records.Given as goal

abbrev pub invariant-loop-desk : goal.invariant-loop-desk
invariant-loop-desk g l = record {
  sum : l.records + all_records (drop l.desk-index l.desks) ≡ all_records l.fn.desks;
  small : l.records ≤ l.desk-index * 9223372036854775808;
  each : AllByRecursion IsSmall (drop l.desk-index l.desks);
}
