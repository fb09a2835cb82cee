use Rattle.std.proofs.Common.{◌≡◌, ℕ, ◌<◌, slice_get, Some}
use Rattle.spnego_core.specs.declared.setup.MechCred.{MechCred}
use Rattle.world_laws.specs.Setups.{IsSpelled}
use Rattle.world_runs.proofs.setups.tell_credentials.Given as goal

abbrev pub invariant-loop-cred : goal.invariant-loop-cred
invariant-loop-cred l = (i : ℕ) (cred : MechCred) → i < l.cred-index → slice_get l.cred-items i ≡ Some cred → IsSpelled cred l.own.stamp l.own.draws l.own.bindings
