use Rattle.pair_laws.proofs.Running.{equal-calls, equal-session}
use Rattle.pair_laws.proofs.laws.prove_equal_calls.Goals as goal

pub returns : goal.returns
returns c = record { calls_are = equal-calls; session_is = equal-session }
