-- The headline, assembled.
use Rattle.std.proofs.Common.{sym, subst, List, [], ◌∷◌}
use Rattle.accept_core.proofs.Onces.{calls-once, marks-once}
use Rattle.world_laws.specs.declared.event.WorldEvent.{WorldEvent}
use Rattle.world_laws.specs.State.{World}
use Rattle.world_laws.specs.Events.{IsBook, Run}
use Rattle.world_laws.specs.Premises.{Fresh}
use Rattle.world_laws.specs.Headline.{OnceLaw, EarlierLaw, Headline}
use Rattle.world_laws.proofs.Invariants.{Below}
use Rattle.world_laws.proofs.Freshness.{fresh-back}
use Rattle.world_laws.proofs.Growing.{run-grows}
use Rattle.world_laws.proofs.Origin.{origin-law}
use Rattle.world_laws.proofs.Quiet.{quiet}
use Rattle.world_laws.proofs.Running.{law}

book-end : (old : World) (events : List WorldEvent) (new : World) → Run old events new → IsBook old.book → IsBook new.book
book-end old [] new run is = subst (λ (w : World). IsBook w.book) (sym run) is
book-end old (event ∷ later) new run is = book-end run.0.world later new run.1 run.0.happens.book

once : OnceLaw
once old events new run begins =
    let is : IsBook new.book = book-end old events new run begins.book in
    record {
      calls = λ i j id n p q xs ys a b. calls-once new.book.core.width new.book.core.history i j id n p q xs ys is.legal a b;
      marks = λ i j id other mark at later a b. marks-once new.book.core.width new.book.core.history i j id other mark at later is.legal a b;
    }

earlier : Below → EarlierLaw
earlier laws marking old front middle run later new more begins none fresh =
    let before : Fresh marking middle = fresh-back marking middle new (run-grows middle later new more) fresh in
    (law laws marking old front middle run begins none before, origin-law laws marking old front middle run begins none before)

pub headline : Below → Headline
headline laws = record {
  agreement = law laws;
  origin = origin-law laws;
  earlier = earlier laws;
  once = once;
  quiet = quiet;
}
