use Rattle.std.proofs.Common.{◌≡◌, ◌+◌, take, drop, []}
use Rattle.scram_mech.specs.UserPlaces.{AreFound}
use Rattle.scram_mech.specs.Verifiers.{once}
use Rattle.scram_mech.proofs.verifiers.places_of.Given as goal

abbrev pub invariant-loop-count : goal.invariant-loop-count
invariant-loop-count l = record {
  once : once (take l.count l.lines) (l.count + 1) (drop l.count l.lines) ≡ once [] 1 l.fn.lines;
  found : AreFound l.places (take l.count l.lines);
}
