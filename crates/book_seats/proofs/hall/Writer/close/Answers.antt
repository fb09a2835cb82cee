use Rattle.std.proofs.Common.{sym, ap, ◌∙◌}
use Rattle.book_seats.proofs.Moves.{compares}
use Rattle.book_seats.proofs.hall.Writer.close.Goals as goal

pub load-requires : goal.load-requires
load-requires g c =
    let hall = c.args.hall.now in
    (c.self.invariant.0 ∙ sym hall.named, hall.words, compares _ _ _ _ _ (ap (λ m. m.0.writes) c.self.invariant.1))
