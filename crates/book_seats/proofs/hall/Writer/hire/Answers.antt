use Rattle.std.proofs.Common.{sym, ap, ◌∙◌}
use Rattle.book_seats.proofs.Moves.{hires_as}
use Rattle.book_seats.proofs.hall.Writer.hire.Goals as goal

pub split_seat-token-requires : goal.split_seat-token-requires
split_seat-token-requires g c =
    let hall = c.args.hall.now in
    (c.self.invariant.0 ∙ sym hall.named, hall.words, hires_as _ _ (ap (λ m. m.0) c.self.invariant.1))
