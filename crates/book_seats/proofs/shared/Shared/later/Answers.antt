use Rattle.std.proofs.Common.{refl, ap, ◌∙◌}
use Rattle.accept_book.specs.Booking.{with_setup}
use Rattle.book_seats.specs.Both.{BothOf}
use Rattle.book_seats.proofs.Histories.{begun-noted, answered, limits-kept}
use Rattle.book_seats.proofs.shared.Shared.later.Goals as goal

pub invariant_of-self : goal.invariant_of-self
invariant_of-self g c =
    let setup = g.J.Room.setup in
    let old : BothOf g.row.P.Denot = record { book = with_setup setup c.self.inside.book; program = c.self.inside.program } in
    let new : BothOf g.row.P.Denot = record { book = with_setup setup c.negotiate-answer.new.self; program = c.self.inside.program } in (
      begun-noted g.P.Program g.J.Begins.begins c.note_step.ensures old new c.self.invariant.0 (rw c.requires at c.negotiate-answer.ensures.stepped, refl) c.log.ensures.legal,
      ap (λ w. w.made) c.note_step.ensures.writer ∙ c.self.invariant.1,
      limits-kept g.P.Program c.note_step.ensures old new (rw c.requires at c.negotiate-answer.ensures.stepped, refl) ∙ c.self.invariant.2,
    )

pub returns-clause-answered : goal.returns-clause-answered
returns-clause-answered g c =
    let setup = g.J.Room.setup in
    let old : BothOf g.row.P.Denot = record { book = with_setup setup c.self.inside.book; program = c.self.inside.program } in
    let new : BothOf g.row.P.Denot = record { book = with_setup setup c.negotiate-answer.new.self; program = c.self.inside.program } in
    answered g.P.Program g.J.Begins.begins c.note_step.ensures old new c.self.invariant.0 (rw c.requires at c.negotiate-answer.ensures.stepped, refl) c.log.ensures.legal
