use Rattle.std.proofs.Common.{rules, arith, vec_len, vec_capacity, ◌≡◌, ◌≤◌, ℕ, is_some, map, Some, length, refl, slice_get, sym, ap, ◌∙◌, subst}
use Rattle.accept_book.specs.Booking.{with_setup}
use Rattle.book_seats.specs.Notes.{noted_by}
use Rattle.gss_server.specs.Hearing.{serving}
use Rattle.std.proofs.lemmas.List.{length-map}
use Rattle.server_desks.specs.Desks.{IsFresh, end_behind, with_speller}
use Rattle.server_options.specs.declared.ending.RunEnd.TheVariants.{Served}
use Rattle.server_desks.proofs.InStep.{there, all-along, get-map}
use denote.Param.Send.{sendable}
use Rattle.server_seating.proofs.Sends.{place-send}
use Rattle.server_seating.proofs.Lengths.{same-length}
use Rattle.server_seating.proofs.Noting.{desk-noted}
use Rattle.server_seating.proofs.seating.run_seated.Goals as goal

pub run_desks-requires-after_bounds : goal.run_desks-requires-after_bounds
run_desks-requires-after_bounds g c κs within =
    let n1 : length c.hire_all.new.staffed.items ≡ length c.replace-olds.result.items = same-length c.hire_all.new.staffed c.replace-olds.result c.hire_all.ensures.count in
    let n2 : length c.seat_all.new.jobs.items ≡ length c.hire_all.new.staffed.items = same-length c.seat_all.new.jobs c.hire_all.new.staffed c.seat_all.ensures.count in
    all-along IsFresh (λ job. IsFresh job.desk) c.replace-olds.result.items c.seat_all.new.jobs.items (n2 ∙ n1)
    (λ i a b at_a at_b fresh.
    let s1 = there c.replace-olds.result.items c.hire_all.new.staffed.items i a n1 at_a in
    let r1 = c.hire_all.ensures.each i a s1.0 at_a s1.1 in
    let r2 = c.seat_all.ensures.each i s1.0 b s1.1 at_b in
    let was : IsFresh s1.0.desk = subst (λ desk. IsFresh desk) (sym r1.0) fresh in
    subst (λ desk. IsFresh desk) (sym r2.0) (record { connections = was.connections; records = was.records }))
    (rw c.replace-olds.ensures.value c.requires.fresh)

pub returns-clause-served : goal.returns-clause-served
returns-clause-served g c =
    let value = c.replace-olds.ensures.value in
    let n1 : length c.hire_all.new.staffed.items ≡ length c.replace-olds.result.items = same-length c.hire_all.new.staffed c.replace-olds.result c.hire_all.ensures.count in
    let n2 : length c.seat_all.new.jobs.items ≡ length c.hire_all.new.staffed.items = same-length c.seat_all.new.jobs c.hire_all.new.staffed c.seat_all.ensures.count in
    let n3 : length c.run_desks.new.jobs.items ≡ length c.seat_all.new.jobs.items = same-length c.run_desks.new.jobs c.seat_all.new.jobs c.run_desks.ensures.count in
    let n4 : length c.rise_all.new.risen.items ≡ length c.run_desks.new.jobs.items = same-length c.rise_all.new.risen c.run_desks.new.jobs c.rise_all.ensures.count in
    let n5 : length c.compare_all.new.desks.items ≡ length c.rise_all.new.risen.items = same-length c.compare_all.new.desks c.rise_all.new.risen c.compare_all.ensures.count in
    let olds : length c.replace-olds.result.items ≡ length c.args.desks.now.items = ap (λ v. length v.items) value in
    let all = c.into_parts-book.result.2.all in
    let ended_once = c.into_parts-book.ensures.ended in
    record {
      all = all;
      ends = map (λ job. job.end) c.run_desks.new.jobs.items;
      first = ended_once.first;
      last = record { book = with_setup g.J.Room.setup c.into_parts-book.result.0; program = c.into_parts-book.result.1 };
      opened = ended_once.began;
      chain = ended_once.chain;
      once = ended_once.once;
      left = refl;
      closed = c.course_of.ensures.log g.J.Room.setup;
      count = n5 ∙ n4 ∙ n3 ∙ n2 ∙ n1 ∙ olds;
      ends_count = length-map c.run_desks.new.jobs.items (λ job. job.end) ∙ n3 ∙ n2 ∙ n1 ∙ olds;
      each = λ i a b ending at_a at_end at_b.
          let at : slice_get c.replace-olds.result.items i ≡ Some a = ap (λ v. slice_get v.items i) value ∙ at_a in
          let s1 = there c.replace-olds.result.items c.hire_all.new.staffed.items i a n1 at in
          let j1 = there c.hire_all.new.staffed.items c.seat_all.new.jobs.items i s1.0 n2 s1.1 in
          let j2 = there c.seat_all.new.jobs.items c.run_desks.new.jobs.items i j1.0 n3 j1.1 in
          let s2 = there c.run_desks.new.jobs.items c.rise_all.new.risen.items i j2.0 n4 j2.1 in
          let r1 = c.hire_all.ensures.each i a s1.0 at s1.1 in
          let r2 = c.seat_all.ensures.each i s1.0 j1.0 s1.1 j1.1 in
          let r3 = c.run_desks.ensures.served i j1.0 j2.0 j1.1 j2.1 in
          let r4 = c.rise_all.ensures.each i j2.0 s2.0 j2.1 s2.1 in
          let r5 = c.compare_all.ensures.each i s2.0 b s2.1 at_b in
          let ended : ending ≡ j2.0.end = get-map (λ job. job.end) c.run_desks.new.jobs.items i j2.0 ending j2.1 at_end in
          record {
            failed = s2.0.share.amount;
            served =
                desk-noted g.V.Program g.W.Speller g.J.Begins.begins (λ s. s.gate.seat) (λ s. s.clerk) (λ s. s.speller) (λ s. s.gate.journaled) (λ s. s.gate.share.amount) (is_some c.args.journal) all i (serving g.W.Speller.says j1.0.width) j1.0.connections a b j1.0.desk j2.0.desk ending j1.0.gate j2.0.gate s2.0.clerk s2.0.share.amount (ap (serving g.W.Speller.says) r2.4) r2.3 (r2.0 ∙ ap (λ d. with_speller d j1.0.desk.speller) r1.0) (r2.1 ∙ r1.1) (r2.2 ∙ ap (λ d. d.speller) r1.0) (r2.5 ∙ c.is_some-journaled.ensures) r2.6
                (rw ended r3) r4.1 r4.2 (r5.0 ∙ r4.0) r5.1;
            failing = λ some. rw c.disk_of.ensures.faults (rw c.into_journal.ensures.same (rw c.compare_all.ensures.journal (r5.2 some)));
          };
      others = λ d few. ap (λ w. noted_by d w.all) (sym c.compare_all.ensures.writer)
          ∙ c.close.ensures.others d (subst (λ (n : ℕ). n ≤ d) (sym (ap (λ w. w.made) c.compare_all.ensures.writer ∙ c.into_parts-book.ensures.desks ∙ c.requires.desks)) (search rules));
      ended = c.course_of.ensures.end ∙ c.end_of-end.ensures ∙ ap (λ jobs. end_behind Served 1 (map (λ job. job.end) jobs)) c.as_slice.ensures.value;
    }

pub returns-clause-limits : goal.returns-clause-limits
returns-clause-limits g c =
    let limits = c.into_parts-book.ensures.limits in
    let closed = c.course_of.ensures.log g.J.Room.setup in
    record {
      width = closed.width ∙ ap (λ l. l.width) limits;
      limit = closed.limit ∙ ap (λ l. l.log) limits;
      contexts = closed.contexts ∙ ap (λ l. l.contexts) limits;
      marks = closed.marks ∙ ap (λ l. l.marks) limits;
      keeping = closed.keeping ∙ ap (λ l. l.keeping) limits;
    }

pub new-requires-3-clause-kept : goal.new-requires-3-clause-kept
new-requires-3-clause-kept g c = rw (ap (λ kept. kept.0) c.in_ok-staffed.ensures.kept) c.requires.kept

pub new-requires-3-clause-count : goal.new-requires-3-clause-count
new-requires-3-clause-count g c = rw (ap (λ kept. kept.0) c.in_ok-staffed.ensures.kept) c.requires.count

pub new-requires-3-clause-unclosed : goal.new-requires-3-clause-unclosed
new-requires-3-clause-unclosed g c = rw (ap (λ kept. kept.0) c.in_ok-staffed.ensures.kept) c.requires.unclosed

pub returns-clause-disk : goal.returns-clause-disk
returns-clause-disk g c = c.disk_of.ensures.some ∙ (c.into_journal.ensures.kept ∙ sym c.requires.kept)

pub run_desks-requires-send-G : goal.run_desks-requires-send-G
run_desks-requires-send-G g c = λ κs lives. search (place-send, sendable) depth 20

pub rise_all-requires-clause-none : goal.rise_all-requires-clause-none
rise_all-requires-clause-none g c = c.in_ok-staffed.ensures.none.2

pub rise_all-requires-clause-room : goal.rise_all-requires-clause-room
rise_all-requires-clause-room g c = omega (arith, c.in_ok-staffed.ensures.room.2, c.run_desks.ensures.count, c.seat_all.ensures.count, c.hire_all.ensures.count, ap vec_len c.replace-olds.ensures.value)

pub compare_all-requires-clause-none : goal.compare_all-requires-clause-none
compare_all-requires-clause-none g c = ap (λ v. v.items) c.replace-olds.ensures.after ∙ c.in_ok-staffed.ensures.none.3

pub compare_all-requires-clause-room : goal.compare_all-requires-clause-room
compare_all-requires-clause-room g c = omega (arith, c.in_ok-staffed.ensures.room.3, c.rise_all.ensures.count, c.run_desks.ensures.count, c.seat_all.ensures.count, c.hire_all.ensures.count, ap vec_len c.replace-olds.ensures.value, ap vec_capacity c.replace-olds.ensures.after)
