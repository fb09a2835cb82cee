use Rattle.std.proofs.Common.{◌≡◌, ◌≤◌, vec_len, vec_capacity}
use Rattle.std.specs.Vec.Iter.{into_iter_items}
use Rattle.server_desks.specs.Desks.{with_speller}
use Rattle.server_desks.proofs.InStep.{Moves}
use Rattle.server_seating.proofs.staffing.rise_all.Given as goal

abbrev pub invariant-loop-job : goal.invariant-loop-job
invariant-loop-job g l = record {
  can_next : (goal.iterator-loop-job g).can_next l.job-iterator;
  finite : (goal.iterator-loop-job g).is_finite l.job-iterator;
  moves : Moves l.fn.jobs.items (into_iter_items l.job-iterator) l.risen.items (λ i a b. (b.desk ≡ with_speller a.desk a.gate.gate.seat.speller) × (b.clerk ≡ a.gate.gate.seat.clerk) × (b.share.amount ≡ a.gate.gate.share.amount));
  room : vec_len l.fn.jobs ≤ vec_capacity l.risen;
}
