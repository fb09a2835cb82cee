use Rattle.std.proofs.Common.{Ok, sym}
use Rattle.datagram_serving.proofs.serving.run_serve.Goals as goal

pub returns-in-Ok-clause-runs : goal.returns-in-Ok-clause-runs
returns-in-Ok-clause-runs g c = rw c.finish.ensures.end (rw c.finish.ensures.log (rw c.finish.ensures.records (rw c.finish.ensures.program (record {
  keys = Ok c.in-Ok.keys;
  read = rw (sym c.in-Ok.is) c.keys_from.ensures.value;
  behind = c.open_and_serve-course.ensures.served;
}))))
