use Rattle.accept_book.specs.RecordShown.{AskedStep}
use Rattle.book_seats.proofs.shared.Shared.first.Given as goal

abbrev pub ghosts-note_step : goal.ghosts-note_step
ghosts-note_step g a = record { entry = AskedStep a.id a.token.now a.now a.draws.now a.answer.now }
