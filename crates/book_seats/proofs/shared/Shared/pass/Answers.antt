use Rattle.std.proofs.Common.{ap, ◌∙◌}
use Rattle.accept_book.specs.Booking.{with_setup}
use Rattle.book_seats.specs.Both.{BothOf}
use Rattle.book_seats.proofs.Admitting.{passed-book, passed-program}
use Rattle.book_seats.proofs.Histories.{begun-noted, answered, limits-kept}
use Rattle.book_seats.proofs.shared.Shared.pass.Goals as goal

pub invariant_of-self : goal.invariant_of-self
invariant_of-self g c =
    let setup = g.J.Room.setup in
    let old : BothOf g.row.P.Denot = record { book = with_setup setup c.self.inside.book; program = c.self.inside.program } in
    let new : BothOf g.row.P.Denot = record { book = with_setup setup c.admit-answer.new.self; program = c.self.inside.program } in (
      begun-noted g.P.Program g.J.Begins.begins c.note_pass.ensures old new c.self.invariant.0 (passed-book g.row.T.Denot setup c.self.inside.book c.admit-answer.new.self c.args.lease.now c.args.call.now.seq c.args.call.now.args.now c.args.call.now.service c.args.call.now.digest c.admit-answer.result c.args.call.now.same (c.admit-answer.ensures.admitted setup), passed-program g.P.Program c.args.lease.now c.args.call.now.seq c.args.call.now.args.now c.args.call.now.service c.admit-answer.result c.self.inside.program) c.log.ensures.legal,
      ap (λ w. w.made) c.note_pass.ensures.writer ∙ c.self.invariant.1,
      limits-kept g.P.Program c.note_pass.ensures old new (passed-book g.row.T.Denot setup c.self.inside.book c.admit-answer.new.self c.args.lease.now c.args.call.now.seq c.args.call.now.args.now c.args.call.now.service c.args.call.now.digest c.admit-answer.result c.args.call.now.same (c.admit-answer.ensures.admitted setup), passed-program g.P.Program c.args.lease.now c.args.call.now.seq c.args.call.now.args.now c.args.call.now.service c.admit-answer.result c.self.inside.program) ∙ c.self.invariant.2,
    )

pub returns : goal.returns
returns g c =
    let setup = g.J.Room.setup in
    let old : BothOf g.row.P.Denot = record { book = with_setup setup c.self.inside.book; program = c.self.inside.program } in
    let new : BothOf g.row.P.Denot = record { book = with_setup setup c.admit-answer.new.self; program = c.self.inside.program } in
    answered g.P.Program g.J.Begins.begins c.note_pass.ensures old new c.self.invariant.0 (passed-book g.row.T.Denot setup c.self.inside.book c.admit-answer.new.self c.args.lease.now c.args.call.now.seq c.args.call.now.args.now c.args.call.now.service c.args.call.now.digest c.admit-answer.result c.args.call.now.same (c.admit-answer.ensures.admitted setup), passed-program g.P.Program c.args.lease.now c.args.call.now.seq c.args.call.now.args.now c.args.call.now.service c.admit-answer.result c.self.inside.program) c.log.ensures.legal
