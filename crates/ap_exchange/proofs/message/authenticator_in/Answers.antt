use Rattle.ap_exchange.proofs.Fits.{time_whole, micros_most}
use Rattle.ap_exchange.proofs.message.authenticator_in.Goals as goal

pub returns-in-Ok-clause-time : goal.returns-in-Ok-clause-time
returns-in-Ok-clause-time c = time_whole c.in-Ok.said c.in-Ok.ensures.found.fits

pub returns-in-Ok-clause-micros : goal.returns-in-Ok-clause-micros
returns-in-Ok-clause-micros c = micros_most c.in-Ok.said c.in-Ok.ensures.found.fits
