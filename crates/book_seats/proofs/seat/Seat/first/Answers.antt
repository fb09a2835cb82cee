use Rattle.book_seats.proofs.seat.Seat.first.Goals as goal

pub first-requires : goal.first-requires
first-requires g c = rw c.args.self.now.same at c.step_first-stepped.ensures
