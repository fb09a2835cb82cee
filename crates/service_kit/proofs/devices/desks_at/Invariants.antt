use Rattle.std.proofs.Common.{◌≡◌, ◌≤◌, vec_len, vec_capacity}
use Rattle.std.specs.List.{AllByRecursion}
use Rattle.server_desks.specs.Desks.{IsFresh}
use Rattle.service_kit.proofs.devices.desks_at.Given as goal

abbrev pub invariant-loop-number : goal.invariant-loop-number
invariant-loop-number g l = record {
  count : vec_len l.desks ≡ l.number;
  room : l.fn.count ≤ vec_capacity l.desks;
  fresh : AllByRecursion IsFresh l.desks.items;
  hire : goal.F-IsAlwaysCallable g l.hire;
}
