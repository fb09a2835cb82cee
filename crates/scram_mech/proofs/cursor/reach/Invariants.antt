use Rattle.std.proofs.Common.{◌≡◌, ◌+◌, drop}
use Rattle.scram_mech.specs.Values.{progress}
use Rattle.scram_mech.proofs.cursor.reach.Given as goal

abbrev pub invariant-loop-count : goal.invariant-loop-count
invariant-loop-count l = record {
  state : (progress l.state (drop l.count l.octets)).state ≡ (progress l.fn.start l.fn.octets).state;
  count : l.count + (progress l.state (drop l.count l.octets)).count ≡ (progress l.fn.start l.fn.octets).count;
}
