use Rattle.std.proofs.Common.{rules}
use Rattle.world_runs.proofs.turn.TurnGate.look.Goals as goal

pub returns-in-Some-clause-answers : goal.returns-in-Some-clause-answers
returns-in-Some-clause-answers c = search rules
