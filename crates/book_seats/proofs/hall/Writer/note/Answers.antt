use Rattle.std.proofs.Common.{◌≡◌, sym, ap, ◌∙◌, subst}
use Rattle.book_seats.specs.Views.{ViewOf, clerk}
use Rattle.book_seats.proofs.Moves.{lends_as, holds_as, notes_as, returns_as, looks, is_busy, is_clerk}
use Rattle.book_seats.proofs.hall.Writer.note.Goals as goal

pub split_seat-lent-requires : goal.split_seat-lent-requires
split_seat-lent-requires g c =
    let hall = c.args.hall.now in
    (c.clerk.invariant.0 ∙ sym hall.named, hall.words, lends_as _ _ (ap (λ m. m.0) c.clerk.invariant.1))

pub join_seat-requires : goal.join_seat-requires
join_seat-requires g c =
    let hall = c.args.hall.now in
    let lent = c.split_seat-lent.ensures in
    let view = ap (λ m. m.0) lent.4 in (
      c.self.invariant.0 ∙ sym hall.named,
      lent.3 ∙ (c.clerk.invariant.0 ∙ sym hall.named),
      ap (λ m. m.1) lent.4,
      hall.words,
      holds_as _ _ _ _ (ap (λ m. m.0) c.self.invariant.1) (subst (λ (u : ViewOf _). u ≡ clerk u.desk u.seen) (sym view) (ap (λ m. m.0) c.clerk.invariant.1)),
    )

pub load-requires : goal.load-requires
load-requires g c =
    let hall = c.args.hall.now in
    let taken = c.join_seat.ensures in (
      taken.0 ∙ (c.self.invariant.0 ∙ sym hall.named),
      hall.words,
      looks _ _ _ _ _ (ap (λ m. m.0.writes) taken.2 ∙ ap (λ m. m.0.writes) c.self.invariant.1),
    )

pub split_seat-back-requires : goal.split_seat-back-requires
split_seat-back-requires g c =
    let hall = c.args.hall.now in
    let lent = c.split_seat-lent.ensures in
    let view = ap (λ m. m.0) lent.4 in
    let taken = c.join_seat.ensures in
    let looked = c.load.ensures in (
      looked.0 ∙ (taken.0 ∙ (c.self.invariant.0 ∙ sym hall.named)),
      hall.words,
      notes_as _ _ _ (is_busy _ _ _ (ap (λ m. m.0) looked.2.0 ∙ ap (λ m. m.0) taken.2) (ap (λ m. m.0) c.self.invariant.1) (subst (λ (u : ViewOf _). u ≡ clerk u.desk u.seen) (sym view) (ap (λ m. m.0) c.clerk.invariant.1))),
    )

pub join_seat-requires-2 : goal.join_seat-requires-2
join_seat-requires-2 g c =
    let hall = c.args.hall.now in
    let lent = c.split_seat-lent.ensures in
    let taken = c.join_seat.ensures in
    let back = c.split_seat-back.ensures in
    let looked = c.load.ensures in (
      lent.0 ∙ (c.clerk.invariant.0 ∙ sym hall.named),
      back.3 ∙ (looked.0 ∙ taken.0 ∙ (c.self.invariant.0 ∙ sym hall.named)),
      ap (λ m. m.1) back.4,
      hall.words,
      returns_as _ _ _ _ (ap (λ m. m.0) lent.2) (is_clerk c.split_seat-back.result.me.0 c.load.new.seat.me.0 g.E.Entry.entry (ap (λ m. m.0) back.4)),
    )
