use Rattle.std.proofs.Common.{arith, refl}
use Rattle.std.proofs.lemmas.Grind.{common_steps}
use Rattle.system_devices.proofs.Written.{one-more}
use Rattle.system_devices.proofs.std_sink.StdSinkSink.write.Goals as goal

pub loop-at-preserved : goal.loop-at-preserved
loop-at-preserved c = record {
  range = grind (arith, common_steps, c.in-Some.ensures.1);
  written = one-more c.args.self.now.written.octets c.loop-at.self.written.octets c.then-self.result.octets c.args.bytes.now _ c.loop-at.at c.in-Some.count c.loop-at.invariant.written refl c.then-self.ensures;
  faults = c.loop-at.invariant.faults;
}
