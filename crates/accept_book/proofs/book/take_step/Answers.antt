use Rattle.spnego_core.specs.Accepting.{accept_step}
use Rattle.accept_book.specs.Booking.{stands_of}
use Rattle.accept_book.proofs.Fitting.{stepped_fits}
use Rattle.accept_book.proofs.Comings.{comes_stepped}
use Rattle.accept_book.proofs.book.take_step.Goals as goal

pub take_stepped-requires-clause-fits : goal.take_stepped-requires-clause-fits
take_stepped-requires-clause-fits c =
    stepped_fits c.args.setup.now c.args.end c.args.token.now c.args.now c.args.draws.now c.step-stepped.result _ c.requires.fits c.step-stepped.ensures.exact

pub returns : goal.returns
returns c =
    let took = c.take_stepped.ensures.took in record {
      size = took.size;
      comes = comes_stepped (stands_of c.args.core.now) c.args.id c.step-stepped.result (accept_step c.args.setup.now c.args.end c.args.token.now c.args.now c.args.draws.now) c.take_stepped.result c.take_stepped.new.core
          c.step-stepped.ensures.exact c.take_stepped.ensures.memory.1 took.comes;
      keeps = took.keeps;
      fits = took.fits;
    }
