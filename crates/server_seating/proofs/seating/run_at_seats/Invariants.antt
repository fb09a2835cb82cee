use Rattle.std.proofs.Common.{◌≡◌, is_some, vec_len}
use Rattle.accept_book.specs.Booking.{with_setup}
use Rattle.gss_server.specs.Telling.{limits_of}
use Rattle.journal_gate.specs.Withheld.{journal_faults}
use Rattle.server_seating.proofs.seating.run_at_seats.Given as goal

abbrev pub ghosts-run_noted-J-Room : goal.ghosts-run_noted-J-Room
ghosts-run_noted-J-Room g a = record {
  table = a.board.shared.table_id;
  setup = a.setup.now;
  desks = vec_len a.desks.now;
  limits = limits_of a.book;
}

abbrev pub ghosts-run_noted-J-Begins : goal.ghosts-run_noted-J-Begins
ghosts-run_noted-J-Begins g a = record { begins = λ first. first ≡ record { book = with_setup a.setup.now a.book; program = a.program } }

abbrev pub ghosts-run_noted-L-Opening : goal.ghosts-run_noted-L-Opening
ghosts-run_noted-L-Opening g a = record { count = journal_faults g.M.Disk.faults a.journal; kept = is_some a.journal }

abbrev pub ghosts-run_noted-L-Ledger : goal.ghosts-run_noted-L-Ledger
ghosts-run_noted-L-Ledger g a = record { name = a.blank.name; parts = a.blank.parts }
