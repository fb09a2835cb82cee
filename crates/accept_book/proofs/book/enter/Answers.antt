use Rattle.std.proofs.Common.{true, rules}
use Rattle.accept_book.specs.Booking.{stands_of}
use Rattle.accept_book.proofs.Fitting.{fits_after}
use Rattle.accept_book.proofs.Comings.{comes_marked}
use Rattle.accept_book.proofs.book.enter.Goals as goal

pub finish-requires-clause-first : goal.finish-requires-clause-first
finish-requires-clause-first c = λ some. (rw c.in-WantsAuth.is at c.requires.fits).0

pub finish-requires-clause-fits : goal.finish-requires-clause-fits
finish-requires-clause-fits c = rw c.go_on.ensures.value (fits_after c.in-WantsAuth.pause.after true (rw c.in-WantsAuth.is at c.requires.fits).1)

pub go_on-requires-in-More-clause-fits : goal.go_on-requires-in-More-clause-fits
go_on-requires-in-More-clause-fits c = rw c.in-More.is at c.requires.fits

pub settle-requires-clause-fits : goal.settle-requires-clause-fits
settle-requires-clause-fits c = rw c.in-Done.is at c.requires.fits

pub returns-in-WantsAuth-clause-took : goal.returns-in-WantsAuth-clause-took
returns-in-WantsAuth-clause-took c = record {
  size = search rules;
  comes = comes_marked (stands_of c.args.core.now) c.args.id c.in-WantsAuth.pause c.args.step c.go_on.result c.mark-mark.result c.finish.result c.finish.new.core
      c.in-WantsAuth.is c.mark-mark.ensures c.go_on.ensures.value c.finish.ensures.took.comes;
  keeps = search rules;
  fits = search rules;
}

pub returns-in-More-clause-took : goal.returns-in-More-clause-took
returns-in-More-clause-took c = rw c.in-More.is c.go_on-in-More.ensures.took

pub returns-in-Done-clause-took : goal.returns-in-Done-clause-took
returns-in-Done-clause-took c = rw c.in-Done.is c.settle.ensures.took
