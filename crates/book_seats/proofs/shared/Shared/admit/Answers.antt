use Rattle.std.proofs.Common.{ap, ◌∙◌}
use Rattle.accept_book.specs.Booking.{with_setup}
use Rattle.book_seats.specs.Both.{BothOf}
use Rattle.book_seats.proofs.Admitting.{entered-book}
use Rattle.book_seats.proofs.Histories.{begun-noted, answered, limits-kept}
use Rattle.book_seats.proofs.shared.Shared.admit.Goals as goal

pub invariant_of-self : goal.invariant_of-self
invariant_of-self g c =
    let setup = g.J.Room.setup in
    let old : BothOf g.row.P.Denot = record { book = with_setup setup c.self.inside.book; program = c.self.inside.program } in
    let new : BothOf g.row.P.Denot = record { book = with_setup setup c.admit-taken.new.self; program = c.enter_taken-answer.new.program } in (
      begun-noted g.P.Program g.J.Begins.begins c.note_admit.ensures old new c.self.invariant.0 (entered-book setup c.self.inside.book c.admit-taken.new.self c.args.lease.now c.args.call.now.seq c.args.call.now.procedure c.args.call.now.args.now c.args.call.now.service c.args.call.now.digest c.admit-taken.result c.enter_taken-answer.result c.args.call.now.same c.enter_taken-answer.ensures.taken (c.admit-taken.ensures.admitted setup), c.enter_taken-answer.ensures.entered) c.log.ensures.legal,
      ap (λ w. w.made) c.note_admit.ensures.writer ∙ c.self.invariant.1,
      limits-kept g.P.Program c.note_admit.ensures old new (entered-book setup c.self.inside.book c.admit-taken.new.self c.args.lease.now c.args.call.now.seq c.args.call.now.procedure c.args.call.now.args.now c.args.call.now.service c.args.call.now.digest c.admit-taken.result c.enter_taken-answer.result c.args.call.now.same c.enter_taken-answer.ensures.taken (c.admit-taken.ensures.admitted setup), c.enter_taken-answer.ensures.entered) ∙ c.self.invariant.2,
    )

pub returns : goal.returns
returns g c =
    let setup = g.J.Room.setup in
    let old : BothOf g.row.P.Denot = record { book = with_setup setup c.self.inside.book; program = c.self.inside.program } in
    let new : BothOf g.row.P.Denot = record { book = with_setup setup c.admit-taken.new.self; program = c.enter_taken-answer.new.program } in
    answered g.P.Program g.J.Begins.begins c.note_admit.ensures old new c.self.invariant.0 (entered-book setup c.self.inside.book c.admit-taken.new.self c.args.lease.now c.args.call.now.seq c.args.call.now.procedure c.args.call.now.args.now c.args.call.now.service c.args.call.now.digest c.admit-taken.result c.enter_taken-answer.result c.args.call.now.same c.enter_taken-answer.ensures.taken (c.admit-taken.ensures.admitted setup), c.enter_taken-answer.ensures.entered) c.log.ensures.legal
