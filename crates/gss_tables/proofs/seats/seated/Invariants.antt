use Rattle.std.proofs.Common.{◌≡◌}
use Rattle.accept_book.specs.Booking.{with_setup}
use Rattle.gss_server.specs.Telling.{limits_of}
use Rattle.gss_tables.proofs.seats.seated.Given as goal

abbrev pub ghosts-step_seated-J-Room : goal.ghosts-step_seated-J-Room
ghosts-step_seated-J-Room g a = record {
  table = a.board.shared.table_id;
  setup = a.setup.now;
  desks = 2;
  limits = limits_of a.book;
}

abbrev pub ghosts-step_seated-J-Begins : goal.ghosts-step_seated-J-Begins
ghosts-step_seated-J-Begins g a = record { begins = λ first. first ≡ record { book = with_setup a.setup.now a.book; program = a.program } }
