use Rattle.accept_book.proofs.book.finish.Goals as goal

pub go_on-requires-clause-fits : goal.go_on-requires-clause-fits
go_on-requires-clause-fits c = rw c.in-More.is at c.requires.fits

pub settle-requires-clause-fits : goal.settle-requires-clause-fits
settle-requires-clause-fits c = rw c.in-Done.is at c.requires.fits

pub returns-in-More-clause-took : goal.returns-in-More-clause-took
returns-in-More-clause-took c = rw c.in-More.is c.go_on.ensures.took

pub returns-in-Done-clause-took : goal.returns-in-Done-clause-took
returns-in-Done-clause-took c = rw c.in-Done.is c.settle.ensures.took
