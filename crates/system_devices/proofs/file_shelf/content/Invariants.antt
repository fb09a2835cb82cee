use Rattle.std.proofs.Common.{◌≤◌, vec_len}
use Rattle.std.specs.Io.KnownBytes.{Consumes}
use Rattle.system_devices.proofs.file_shelf.content.Given as goal

abbrev pub invariant-loop : goal.invariant-loop
invariant-loop g l = Consumes (g.F.Read.remaining l.initial.file) (g.F.Read.remaining l.file) l.octets.items × (vec_len l.octets ≤ l.limit)
