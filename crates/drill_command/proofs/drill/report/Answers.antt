use Rattle.drill_command.proofs.drill.report.Goals as goal

pub returns-in-Ok-clause-status : goal.returns-in-Ok-clause-status
returns-in-Ok-clause-status g c = λ some other. absurd (some (c.print-status.ensures.status other))
