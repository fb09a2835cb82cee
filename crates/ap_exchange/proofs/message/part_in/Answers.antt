use Rattle.ap_exchange.proofs.Fits.{client_named}
use Rattle.ap_exchange.proofs.message.part_in.Goals as goal

pub returns-in-Ok-clause-named : goal.returns-in-Ok-clause-named
returns-in-Ok-clause-named c = client_named c.in-Ok.part c.in-Ok.ensures.found.fits
