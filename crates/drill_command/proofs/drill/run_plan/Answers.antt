use Rattle.std.proofs.Common.{ap}
use Rattle.drill_command.proofs.drill.run_plan.Goals as goal

pub returns-in-Ok-clause-count : goal.returns-in-Ok-clause-count
returns-in-Ok-clause-count g c = λ e. rw (c.report.ensures.held e) c.in-Ok.ensures.count

pub returns-in-Ok-clause-limits : goal.returns-in-Ok-clause-limits
returns-in-Ok-clause-limits g c = λ e. rw (c.report.ensures.log e) c.in-Ok.ensures.limits

pub returns-in-Ok-clause-held : goal.returns-in-Ok-clause-held
returns-in-Ok-clause-held g c = λ e. rw (c.report.ensures.held e, c.report.ensures.log e) c.in-Ok.ensures.held

pub report-requires-clause-kept : goal.report-requires-clause-kept
report-requires-clause-kept g c = ap (λ l. l.1.entries) c.in-Ok.ensures.limits
