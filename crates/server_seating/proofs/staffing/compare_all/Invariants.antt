use Rattle.std.proofs.Common.{◌≡◌, ◌≤◌, ◌<◌, vec_len, vec_capacity}
use Rattle.std.specs.Vec.Iter.{into_iter_items}
use Rattle.sec_base.specs.Answers.{Rose}
use Rattle.book_seats.specs.Notes.{noted_by}
use Rattle.journal_gate.specs.Withheld.{journal_faults}
use Rattle.server_desks.proofs.InStep.{Moves}
use Rattle.server_seating.proofs.staffing.compare_all.Given as goal

abbrev pub invariant-loop-one : goal.invariant-loop-one
invariant-loop-one g l = record {
  can_next : (goal.iterator-loop-one g).can_next l.one-iterator;
  finite : (goal.iterator-loop-one g).is_finite l.one-iterator;
  moves : Moves l.fn.risen.items (into_iter_items l.one-iterator) l.desks.items (λ i a b. (b ≡ a.desk) × (noted_by a.clerk.desk l.fn.writer.all ≡ noted_by a.clerk.desk a.clerk.seen) × (0 < a.share.amount → Rose g.L.Opening.count (journal_faults g.M.Disk.faults l.fn.behind.journal)));
  writer : l.writer ≡ l.fn.writer;
  journal : l.behind.journal ≡ l.fn.behind.journal;
  room : vec_len l.fn.risen ≤ vec_capacity l.desks;
}
