use Rattle.std.proofs.Common.{◌≡◌, ◌≤◌, [], length, vec_len, vec_capacity}
use Rattle.std.specs.Vec.Iter.{into_iter_items}
use Rattle.server_desks.proofs.InStep.{Moves}
use Rattle.server_seating.proofs.staffing.hire_all.Given as goal

abbrev pub invariant-loop-desk : goal.invariant-loop-desk
invariant-loop-desk g l = record {
  can_next : (goal.iterator-loop-desk g).can_next l.desk-iterator;
  finite : (goal.iterator-loop-desk g).is_finite l.desk-iterator;
  moves : Moves l.fn.desks.items (into_iter_items l.desk-iterator) l.staffed.items (λ i a b. (b.desk ≡ a) × (b.clerk ≡ record { desk = i; seen = [] }));
  writer : l.writer ≡ record { made = length l.staffed.items; all = [] };
  room : vec_len l.fn.desks ≤ vec_capacity l.staffed;
}
