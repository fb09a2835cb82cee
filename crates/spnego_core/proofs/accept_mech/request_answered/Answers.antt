use Rattle.spnego_core.proofs.Short.{if_answer}
use Rattle.spnego_core.proofs.accept_mech.request_answered.Goals as goal

pub returns-clause-short : goal.returns-clause-short
returns-clause-short c = if_answer c.args.request c.args.draws.now c.request_told.result c.told-draws c.request_told.ensures.answer
