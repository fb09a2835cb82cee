use Rattle.service_kit.proofs.Acts.{none-acted}
use Rattle.service_kit.proofs.running.unbegun.Goals as goal

pub returns-clause-acted : goal.returns-clause-acted
returns-clause-acted g c = none-acted g.V.Program c.args.program
