use Rattle.accept_book.proofs.own_seat.OwnSeat.admit.Goals as goal

pub returns : goal.returns
returns c = record { admitted = rw (← c.self.view_is) (c.admit.ensures.admitted c.self.inside.setup) }
