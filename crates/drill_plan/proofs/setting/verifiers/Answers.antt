use Rattle.std.proofs.Common.{rules}
use Rattle.drill_plan.proofs.Verifying.{line-read}
use Rattle.drill_plan.proofs.setting.verifiers.Goals as goal

pub returns-in-Ok : goal.returns-in-Ok
returns-in-Ok c = let read = line-read c.prove_laws.ensures in search (rules, read)

pub unreachable-requires : goal.unreachable-requires
unreachable-requires c = let read = line-read c.prove_laws.ensures in search (rules, read)
