use Rattle.std.proofs.Common.{◌≡◌, refl, sym, subst}
use Rattle.accept_book.specs.Booking.{with_setup}
use Rattle.gss_server.specs.Telling.{limits_of}
use Rattle.book_seats.specs.Both.{BothOf}
use Rattle.book_seats.specs.Views.{WriterOf}
use Rattle.book_seats.specs.Histories.{Begun}
use Rattle.book_seats.proofs.shared.Shared.new.Goals as goal

pub invariant_of-result : goal.invariant_of-result
invariant_of-result g c =
    let both : BothOf g.row.P.Denot = record { book = with_setup g.J.Room.setup c.args.book; program = c.args.program } in
    subst (λ (w : WriterOf g.row.T.Denot). Begun g.P.Program g.J.Begins.begins w.all both × (w.made ≡ g.J.Room.desks) × (limits_of c.args.book ≡ g.J.Room.limits)) (sym c.requires.writer)
    ((both, c.requires.both, refl, c.log.ensures.legal), refl, c.requires.limits)
