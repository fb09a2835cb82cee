-- A call that is sent again acts once, over a book.
use Rattle.std.proofs.Common.{◌≡◌, ℕ, List, [], map, arith}
use Rattle.accept_book.specs.Booking.{BookOf}
use Rattle.accept_book.specs.RecordShown.{booked}
use Rattle.again_gate.specs.Again.{AgainOf, opened_gate}
use Rattle.again_gate.specs.Turns.{Turned}
use Rattle.again_laws.specs.Acting.{acting}
use Rattle.again_laws.specs.Below.{HasBelow, asked_in}
use Rattle.again_laws.specs.Laws.{log_of, GateAnswers, Through, ActsOnce, AnsweredOnce, EachOnce}
use Rattle.again_laws.specs.Sole.{Within}
use Rattle.again_laws.proofs.Apart.{one-each}
use Rattle.again_laws.proofs.Books.{book-sole, within-book, same-width, wider, booked-all}
use Rattle.again_laws.proofs.Outcomes.{answered-once}
use Rattle.again_laws.proofs.Rises.{rises}
use Rattle.again_laws.proofs.Steps.{acts-once}
use Rattle.again_laws.proofs.Under.{turns-below}
use Rattle.again_laws.proofs.Windows.{Numbered, all-numbered}

below-of : (kept contexts most : ℕ) (book : BookOf) (turns : List Turned) (new : AgainOf BookOf) → Through kept contexts most book turns new → HasBelow GateAnswers (opened_gate book contexts kept most) new (asked_in turns)
below-of kept contexts most book turns new t = turns-below GateAnswers turns (opened_gate book contexts kept most) new t.turned

within-of : (kept contexts most : ℕ) (book : BookOf) (turns : List Turned) (new : AgainOf BookOf) → Through kept contexts most book turns new → Within contexts (log_of new.gate)
within-of kept contexts most book turns new t =
    let b = below-of kept contexts most book turns new t in
    wider book.core.table.limit contexts (log_of new.gate) t.places (within-book book new.gate (map booked b.below) t.empty (booked-all book new.gate b.below b.chain))

pub book-acts-once : ActsOnce
book-acts-once kept contexts most book turns new t id =
    acts-once GateAnswers log_of book-sole new.gate.core.width kept contexts most book turns new t.empty.history t.turned t.legal (within-of kept contexts most book turns new t) id

pub book-answered : AnsweredOnce
book-answered kept contexts most book turns new t id = answered-once GateAnswers log_of book-sole kept contexts most book turns new t.turned id

pub book-each : EachOnce
book-each kept contexts most book turns new t some wide id sent sending from =
    let b = below-of kept contexts most book turns new t in
    let width : new.gate.core.width ≡ book.core.width = same-width book new.gate (map booked b.below) (booked-all book new.gate b.below b.chain) in
    let none : Numbered new.gate.core.width id (log_of book) [] = record { named = tt; windowed = tt } in
    let numbered = all-numbered GateAnswers log_of book-sole new.gate.core.width id contexts turns (opened_gate book contexts kept most) new [] t.turned (t.legal, within-of kept contexts most book turns new t) none in
    one-each kept new.gate.core.width (acting id turns) (omega (arith, width, some)) (omega (arith, width, wide)) (book-acts-once kept contexts most book turns new t id) numbered.windowed (rises sent (acting id turns) sending from)
