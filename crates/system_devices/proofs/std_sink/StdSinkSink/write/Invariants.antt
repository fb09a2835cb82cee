use Rattle.std.proofs.Common.{◌≡◌, ◌++◌, length, take, ◌-◌, ◌≤◌}
use Rattle.system_devices.proofs.std_sink.StdSinkSink.write.Given as goal

abbrev pub invariant-loop-at : goal.invariant-loop-at
invariant-loop-at l = record {
  range : l.at ≤ length l.bytes;
  written : l.self.written.octets ≡ l.fn.self.written.octets ++ take l.at l.bytes;
  faults : l.fn.self.faults ≤ l.self.faults;
}

abbrev pub decreases-loop-at : goal.decreases-loop-at
decreases-loop-at l = length l.bytes - l.at
