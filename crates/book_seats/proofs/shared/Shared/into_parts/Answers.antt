use Rattle.accept_book.specs.Booking.{with_setup}
use Rattle.book_seats.specs.Both.{BothOf}
use Rattle.book_seats.specs.Notes.{noted_in}
use Rattle.book_seats.proofs.Acts.{acts-once}
use Rattle.book_seats.proofs.shared.Shared.into_parts.Goals as goal

pub returns-clause-ended : goal.returns-clause-ended
returns-clause-ended g c =
    let began = c.self.invariant.0 in
    let both : BothOf g.row.P.Denot = record { book = with_setup g.J.Room.setup c.self.inside.book; program = c.self.inside.program } in record {
      first = began.0;
      began = began.1;
      chain = began.2;
      once = acts-once g.P.Program began.0 both (noted_in c.self.inside.writer.all) began.2;
      legal = began.3;
    }
