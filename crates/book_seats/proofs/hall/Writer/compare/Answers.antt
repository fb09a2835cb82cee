use Rattle.std.proofs.Common.{sym, ap, ◌∙◌}
use Rattle.book_seats.proofs.Moves.{holds_as, compares}
use Rattle.book_seats.proofs.hall.Writer.compare.Goals as goal

pub join_seat-requires : goal.join_seat-requires
join_seat-requires g c =
    let hall = c.args.hall.now in (
      c.self.invariant.0 ∙ sym hall.named,
      c.clerk.invariant.0 ∙ sym hall.named,
      ap (λ m. m.1) c.clerk.invariant.1,
      hall.words,
      holds_as _ _ _ _ (ap (λ m. m.0) c.self.invariant.1) (ap (λ m. m.0) c.clerk.invariant.1),
    )

pub load-requires : goal.load-requires
load-requires g c =
    let hall = c.args.hall.now in
    let taken = c.join_seat.ensures in (
      taken.0 ∙ (c.self.invariant.0 ∙ sym hall.named),
      hall.words,
      compares _ _ _ _ _ (ap (λ m. m.0.writes) taken.2 ∙ ap (λ m. m.0.writes) c.self.invariant.1),
    )
