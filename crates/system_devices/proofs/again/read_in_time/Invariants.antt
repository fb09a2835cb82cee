use Rattle.std.proofs.Common.{}
use Rattle.std.specs.Io.KnownBytes.{Keeps}
use Rattle.system_devices.proofs.again.read_in_time.Given as goal

abbrev pub invariant-loop : goal.invariant-loop
invariant-loop g l = Keeps (g.S.Read.remaining l.initial.stream) (g.S.Read.remaining l.stream)
