use Rattle.std.proofs.Common.{◌≡◌, ◌≤◌, length, vec_len, vec_capacity}
use Rattle.std.specs.Vec.Iter.{into_iter_items}
use Rattle.server_desks.specs.Desks.{with_speller}
use Rattle.server_desks.proofs.InStep.{Moves}
use Rattle.server_seating.proofs.staffing.seat_all.Given as goal

abbrev pub invariant-loop-one : goal.invariant-loop-one
invariant-loop-one g l = record {
  can_next : (goal.iterator-loop-one g).can_next l.one-iterator;
  finite : (goal.iterator-loop-one g).is_finite l.one-iterator;
  moves : Moves l.fn.staffed.items (into_iter_items l.one-iterator) l.jobs.items (λ i a b. (b.desk ≡ with_speller a.desk b.desk.speller) × (b.gate.gate.seat.clerk ≡ a.clerk) × (b.gate.gate.seat.speller ≡ a.desk.speller) × (b.connections ≡ l.fn.connections) × (b.width ≡ l.fn.width) × (b.gate.gate.journaled ≡ l.fn.journaled) × (b.gate.gate.share.amount ≡ 0));
  room : vec_len l.fn.staffed ≤ vec_capacity l.jobs;
  parts : length (into_iter_items l.one-iterator) ≤ l.all.parts;
  amount : l.all.amount ≡ 0;
}
