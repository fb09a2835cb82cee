use Rattle.rpcsec_bodies.proofs.Taken.{found-by}
use Rattle.rpcsec_bodies.proofs.opening.unprotect.Goals as goal

pub returns-clause-found : goal.returns-clause-found
returns-clause-found c = found-by c.args.end.now c.args.service c.args.seq c.args.body.now c.unprotected.result c.unprotected.ensures
