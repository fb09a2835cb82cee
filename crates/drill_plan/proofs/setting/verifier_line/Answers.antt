use Rattle.std.proofs.Common.{rules}
use Rattle.drill_plan.proofs.Verifying.{line-made}
use Rattle.drill_plan.proofs.setting.verifier_line.Goals as goal

pub returns-in-Ok : goal.returns-in-Ok
returns-in-Ok c = search (rules, line-made)

pub unreachable-requires : goal.unreachable-requires
unreachable-requires c = search (rules, line-made)
