use Rattle.accept_book.proofs.own_seat.OwnSeat.look.Goals as goal

pub returns : goal.returns
returns c = record { looked = rw (← c.self.view_is) (c.look.ensures.looked c.self.inside.setup) }
