use Rattle.accept_book.specs.RecordShown.{AskedLook}
use Rattle.book_seats.proofs.shared.Shared.look.Given as goal

abbrev pub ghosts-note_look : goal.ghosts-note_look
ghosts-note_look g a = record { entry = AskedLook a.id a.now a.answer.now }
