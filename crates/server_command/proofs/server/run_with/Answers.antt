use Rattle.std.proofs.Common.{◌≡◌, true, is_some, inl, inr, ⊎_elim, Ok, ap, sym, ◌∙◌}
use Rattle.journal_gate.specs.Withheld.{disk_faults}
use Rattle.server_options.specs.Lines.{is_begun}
use Rattle.server_options.proofs.KeyNames.{key-names}
use Rattle.server_command.proofs.Disks.{back-again, stops-other}
use Rattle.server_command.proofs.Telling.{told}
use Rattle.server_command.proofs.server.run_with.Goals as goal

pub returns-in-Ok-open_journal-clause-said : goal.returns-in-Ok-open_journal-clause-said
returns-in-Ok-open_journal-clause-said g c = λ t. rw (sym c.as_slice.ensures.value) (c.finish.ensures.said t _)

pub returns-in-Ok-open_journal-clause-named_files : goal.returns-in-Ok-open_journal-clause-named_files
returns-in-Ok-open_journal-clause-named_files g c = key-names _ _ _ _ _ _ c.args.options.files c.args.options.name _ c.keys_from.ensures.value

pub returns-in-Err-clause-named_files : goal.returns-in-Err-clause-named_files
returns-in-Err-clause-named_files g c = key-names _ _ _ _ _ _ c.args.options.files c.args.options.name _ c.keys_from.ensures.value

pub returns-in-Ok-open_journal-clause-booked : goal.returns-in-Ok-open_journal-clause-booked
returns-in-Ok-open_journal-clause-booked g c =
    rw c.finish.ensures.end (rw c.finish.ensures.log (rw c.finish.ensures.program (⊎_elim (λ none. inl (ap is_begun none.0, none.1, none.2)) (λ one. inr (c.in-Ok.keys, rw (sym c.in-Ok.is) c.keys_from.ensures.value, one))
    (c.open_and_serve-course.ensures.booked (disk_faults g.M.Disk.faults c.args.disk.now) (λ some. c.in-Ok-open_journal.ensures.faults (sym c.in-Ok-open_journal.ensures.named ∙ some))))))

pub returns-in-Ok-open_journal-clause-begins : goal.returns-in-Ok-open_journal-clause-begins
returns-in-Ok-open_journal-clause-begins g c = record {
  keys = Ok c.in-Ok.keys;
  given = rw (sym c.in-Ok.is) c.keys_from.ensures.value;
  ends = inr (c.in-Ok-open_journal.ensures.accepted, rw c.finish.ensures.end c.open_and_serve-course.ensures.begun);
}

pub returns-in-Ok-open_journal-clause-limits : goal.returns-in-Ok-open_journal-clause-limits
returns-in-Ok-open_journal-clause-limits g c = rw c.finish.ensures.end (rw c.finish.ensures.log c.open_and_serve-course.ensures.limits)

pub returns-in-Ok-open_journal-clause-named : goal.returns-in-Ok-open_journal-clause-named
returns-in-Ok-open_journal-clause-named g c = rw c.finish.ensures.end c.open_and_serve-course.ensures.named

pub returns-in-Ok-open_journal-clause-seen : goal.returns-in-Ok-open_journal-clause-seen
returns-in-Ok-open_journal-clause-seen g c =
    rw c.finish.ensures.end (rw c.finish.ensures.log (rw c.finish.ensures.program (⊎_elim (λ none. inl (ap is_begun none.0, none.1, none.2))
    (λ one. inr (c.in-Ok.keys, rw (sym c.in-Ok.is) c.keys_from.ensures.value, told _ _ _ _ _ _ _ _ _ _ _ _ _ _ _ _ _ _ _ one c.open_and_serve-course.ensures.legal))
    (c.open_and_serve-course.ensures.booked (disk_faults g.M.Disk.faults c.args.disk.now) (λ some. c.in-Ok-open_journal.ensures.faults (sym c.in-Ok-open_journal.ensures.named ∙ some))))))

pub returns-in-Ok-open_journal-clause-status : goal.returns-in-Ok-open_journal-clause-status
returns-in-Ok-open_journal-clause-status g c = c.finish.ensures.status

pub returns-in-Ok-open_journal-clause-sink_fault : goal.returns-in-Ok-open_journal-clause-sink_fault
returns-in-Ok-open_journal-clause-sink_fault g c = c.finish.ensures.sink_fault

pub returns-in-Ok-open_journal-clause-count : goal.returns-in-Ok-open_journal-clause-count
returns-in-Ok-open_journal-clause-count g c = c.open_and_serve-course.ensures.count

pub returns-in-Ok-open_journal-clause-legal : goal.returns-in-Ok-open_journal-clause-legal
returns-in-Ok-open_journal-clause-legal g c = rw c.finish.ensures.log c.open_and_serve-course.ensures.legal

pub returns-in-Err-clause-status : goal.returns-in-Err-clause-status
returns-in-Err-clause-status g c = c.unready-in-Err.ensures.status

pub returns-in-Err-clause-sink_fault : goal.returns-in-Err-clause-sink_fault
returns-in-Err-clause-sink_fault g c = c.unready-in-Err.ensures.sink_fault

pub returns-in-Err-open_journal-clause-named_files : goal.returns-in-Err-open_journal-clause-named_files
returns-in-Err-open_journal-clause-named_files g c = key-names _ _ _ _ _ _ c.args.options.files c.args.options.name _ c.keys_from.ensures.value

pub returns-in-Ok-open_journal-clause-back : goal.returns-in-Ok-open_journal-clause-back
returns-in-Ok-open_journal-clause-back g c =
    back-again (is_some c.args.options.files.journal) c.args.disk.now c.open_journal.new.disk c.open_and_serve-course.new.disk c.requires.filled c.in-Ok-open_journal.ensures.untouched c.open_and_serve-course.ensures.back c.open_and_serve-course.ensures.untouched

pub returns-in-Ok-open_journal-clause-idle : goal.returns-in-Ok-open_journal-clause-idle
returns-in-Ok-open_journal-clause-idle g c = λ idle other.
    let begun : is_begun c.finish.result.end ≡ true = rw c.finish.ensures.end (c.open_and_serve-course.ensures.begun (λ e. other (c.finish.ensures.end ∙ e))) in cc

pub returns-in-Err-open_journal-clause-other : goal.returns-in-Err-open_journal-clause-other
returns-in-Err-open_journal-clause-other g c = λ e.
    stops-other g.M.Disk c.args.disk.now c.open_journal.new.disk c.args.start c.in-Err-open_journal.end c.in-Err-open_journal.ensures.stops.1 (sym c.unready.ensures.end ∙ e)
