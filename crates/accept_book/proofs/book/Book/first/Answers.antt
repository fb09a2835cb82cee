use Rattle.std.proofs.Common.{refl, false}
use Rattle.spnego_core.specs.declared.accept_end.AcceptEnd.TheVariants.{New}
use Rattle.accept_book.proofs.Fitting.{stepped_fits}
use Rattle.accept_book.proofs.Comings.{comes_first}
use Rattle.accept_book.proofs.book.Book.first.Goals as goal

pub begin-answer-requires-clause-step_fits : goal.begin-answer-requires-clause-step_fits
begin-answer-requires-clause-step_fits c =
    let was = c.requires in stepped_fits was.0 New was.1 c.args.now was.2 c.args.stepped false refl was.3.exact

pub begin-answer-requires-clause-short : goal.begin-answer-requires-clause-short
begin-answer-requires-clause-short c = c.requires.3.short

pub returns-clause-stepped : goal.returns-clause-stepped
returns-clause-stepped c = λ setup token draws made.
    rw (← c.self.view_is) (comes_first c.self.inside.core c.raise.new.self c.begin-answer.new.core setup c.args.stepped token c.args.now draws c.begin-answer.result
    c.raise.ensures.history c.raise.ensures.limit c.raise.ensures.width c.raise.ensures.keeping c.raise.ensures.table c.raise.ensures.capacity c.raise.ensures.greatest
    c.begin-answer.ensures.took c.begin-answer.ensures.memory.1 c.log.ensures.replays.live made)
