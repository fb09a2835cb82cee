use Rattle.std.proofs.Common.{◌≡◌, ℕ, ◌<◌, map, slice_get, Some}
use Rattle.spnego_core.specs.Ends.{PlainSetup, setup_of}
use Rattle.world_laws.specs.Setups.{IsSetup}
use Rattle.world_runs.proofs.setups.tell_setups.Given as goal

abbrev pub invariant-loop-own : goal.invariant-loop-own
invariant-loop-own l = (i : ℕ) (own : PlainSetup) → i < l.own-index → slice_get (map setup_of l.facts) i ≡ Some own → IsSetup own
