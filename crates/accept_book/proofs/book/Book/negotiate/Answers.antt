use Rattle.accept_book.proofs.book.Book.negotiate.Goals as goal

pub first-requires : goal.first-requires
first-requires c = (c.args.setup.now, c.args.token.now, c.args.draws.now, c.step_first-stepped.ensures)

pub returns-in-None-clause-stepped : goal.returns-in-None-clause-stepped
returns-in-None-clause-stepped c = rw c.in-None.is (c.first.ensures.stepped c.args.setup.now c.args.token.now c.args.draws.now c.step_first-stepped.ensures)
