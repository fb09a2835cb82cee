use Rattle.accept_book.specs.RecordShown.{AskedAdmit}
use Rattle.book_seats.specs.Admitting.{entered_in}
use Rattle.book_seats.proofs.shared.Shared.admit.Given as goal

abbrev pub ghosts-note_admit : goal.ghosts-note_admit
ghosts-note_admit g a = record { entry = AskedAdmit a.lease.now a.call.now.seq a.call.now.service a.call.now.procedure a.call.now.args.now (entered_in a.answer.now) }
