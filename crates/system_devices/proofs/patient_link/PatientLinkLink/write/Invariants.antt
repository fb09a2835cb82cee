use Rattle.std.proofs.Common.{◌≡◌}
use Rattle.system_devices.specs.Moves.{wire_of}
use Rattle.system_devices.proofs.patient_link.PatientLinkLink.write.Given as goal

abbrev pub invariant-loop : goal.invariant-loop
invariant-loop g l = record {
  faults : l.self.faults ≡ l.fn.self.faults;
  wire : wire_of l.self.link ≡ wire_of l.fn.self.link;
  closed : l.self.link.closed ≡ l.fn.self.link.closed;
}
