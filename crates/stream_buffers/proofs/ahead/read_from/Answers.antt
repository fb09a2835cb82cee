use Rattle.std.proofs.Common.{ap}
use Rattle.sec_base.specs.Link.{Wire}
use Rattle.stream_buffers.proofs.ahead.read_from.Goals as goal

pub returns-in-Ok-clause-written : goal.returns-in-Ok-clause-written
returns-in-Ok-clause-written g c = c.in-Ok.ensures.told.0.written

pub returns-in-Err-clause-written : goal.returns-in-Err-clause-written
returns-in-Err-clause-written g c = ap (λ (w : Wire). w.written) c.in-Err.ensures.told

pub returns-in-Err-clause-untaken : goal.returns-in-Err-clause-untaken
returns-in-Err-clause-untaken g c = ap (λ (w : Wire). w.taken) c.in-Err.ensures.told
