use Rattle.accept_book.specs.RecordShown.{AskedAdmit}
use Rattle.rpc_program.specs.Programs.{NONE}
use Rattle.book_seats.specs.Admitting.{passed_in}
use Rattle.book_seats.proofs.shared.Shared.pass.Given as goal

abbrev pub ghosts-note_pass : goal.ghosts-note_pass
ghosts-note_pass g a = record { entry = AskedAdmit a.lease.now a.call.now.seq a.call.now.service NONE a.call.now.args.now (passed_in a.answer.now) }
