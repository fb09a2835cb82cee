use Rattle.accept_book.proofs.own_seat.OwnSeat.end.Goals as goal

pub returns : goal.returns
returns c = record { ended = rw (← c.self.view_is) (c.end.ensures.ended c.self.inside.setup) }
