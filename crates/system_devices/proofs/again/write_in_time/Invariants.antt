use Rattle.std.proofs.Common.{}
use Rattle.std.specs.Io.KnownBytes.{Keeps}
use Rattle.system_devices.proofs.again.write_in_time.Given as goal

abbrev pub invariant-loop : goal.invariant-loop
invariant-loop g l = Keeps (g.S.Write.contents l.initial.stream) (g.S.Write.contents l.stream)
