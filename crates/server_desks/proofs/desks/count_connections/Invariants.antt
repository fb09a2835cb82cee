use Rattle.std.proofs.Common.{◌≡◌, ◌≤◌, ◌+◌, ◌*◌, drop}
use Rattle.std.specs.List.{AllByRecursion}
use Rattle.server_desks.specs.Desks.{IsSmall, all_connections}
use Rattle.server_desks.proofs.desks.count_connections.Given as goal

abbrev pub invariant-loop-desk : goal.invariant-loop-desk
invariant-loop-desk g l = record {
  sum : l.connections + all_connections (drop l.desk-index l.desks) ≡ all_connections l.fn.desks;
  small : l.connections ≤ l.desk-index * 140737488355328;
  each : AllByRecursion IsSmall (drop l.desk-index l.desks);
}
