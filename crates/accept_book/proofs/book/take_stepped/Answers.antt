use Rattle.std.proofs.Common.{arith}
use Rattle.accept_book.specs.Booking.{stands_of}
use Rattle.accept_book.proofs.Comings.{comes_short}
use Rattle.accept_book.proofs.book.take_stepped.Goals as goal

pub enter-requires-clause-fits : goal.enter-requires-clause-fits
enter-requires-clause-fits c = rw c.in-Ok.is at c.requires.fits

pub enter-requires-clause-short : goal.enter-requires-clause-short
enter-requires-clause-short c = rw c.in-Ok.is at c.requires.short

pub returns-in-Ok-clause-took : goal.returns-in-Ok-clause-took
returns-in-Ok-clause-took c = rw c.in-Ok.is c.enter.ensures.took

pub returns-in-Ok-clause-memory : goal.returns-in-Ok-clause-memory
returns-in-Ok-clause-memory c =
    ((λ e. absurd (c.enter.ensures.memory e)), (λ e. let is = c.in-Ok.is in absurd cc))

pub returns-in-Err-NoMemory-clause-took : goal.returns-in-Err-NoMemory-clause-took
returns-in-Err-NoMemory-clause-took c = record {
  size = rw c.refuse.ensures.answer (omega arith);
  comes = comes_short (stands_of c.args.core.now) c.args.id _ c.refuse.result c.refuse.new.core c.refuse.ensures.comes;
  keeps = c.refuse.ensures.keeps;
  fits = c.refuse.ensures.fits;
}

pub returns-in-Err-clause-took : goal.returns-in-Err-clause-took
returns-in-Err-clause-took c = rw c.in-Err.is (record {
  size = rw c.refuse-in-Err.ensures.answer (omega arith);
  comes = c.refuse-in-Err.ensures.comes;
  keeps = c.refuse-in-Err.ensures.keeps;
  fits = c.refuse-in-Err.ensures.fits;
})

pub refuse-requires-in-Err : goal.refuse-requires-in-Err
refuse-requires-in-Err c = record { ready = c.requires.ready }
