use Rattle.accept_book.specs.RecordShown.{AskedEnd}
use Rattle.book_seats.proofs.shared.Shared.end.Given as goal

abbrev pub ghosts-note_end : goal.ghosts-note_end
ghosts-note_end g a = record { entry = AskedEnd a.lease.now a.seq a.answer.now }
