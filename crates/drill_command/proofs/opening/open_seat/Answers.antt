use Rattle.std.proofs.Common.{refl, ap, length, arith}
use Rattle.drill_command.proofs.opening.open_seat.Goals as goal

pub returns-clause-limits : goal.returns-clause-limits
returns-clause-limits c = rw (c.in_ok-book.ensures.width, c.in_ok-book.ensures.limit, c.in_ok-book.ensures.contexts, c.in_ok-book.ensures.marks, c.in_ok-book.ensures.keeping) refl

pub returns-clause-rests : goal.returns-clause-rests
returns-clause-rests c =
    let b = c.in_ok-book.ensures in
    c.prove_rests.ensures.begins _ c.in_ok-book.book.core b.history (ap length b.empty) (omega (arith, b.greatest, c.moment_of.ensures))
