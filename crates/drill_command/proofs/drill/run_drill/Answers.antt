use Rattle.std.proofs.Common.{◌≡◌, ◌∙◌, ap, sym, arith, Option, Some, None}
use Rattle.drill_plan.specs.declared.words.Plan.{Plan}
use Rattle.drill_plan.specs.Sessions.{session_count}
use Rattle.drill_command.proofs.Chained.{held-by}
use Rattle.drill_plan.proofs.Saying.{known-said}
use Rattle.drill_command.proofs.drill.run_drill.Goals as goal

same-plan : {read : Option Plan} {one other : Plan} → Some one ≡ read → read ≡ Some other → one ≡ other
same-plan here there = cc

none-some : {read : Option Plan} {one : Plan} → Some one ≡ read → read ≡ None → ⊥
none-some here there = cc

pub run_plan-requires-clause-mechs : goal.run_plan-requires-clause-mechs
run_plan-requires-clause-mechs g c = c.requires c.in-Some.plan (sym c.in-Some.ensures.value)

pub returns-in-Some-clause-usage : goal.returns-in-Some-clause-usage
returns-in-Some-clause-usage g c = λ e. absurd (let is : c.run_plan.result.status ≡ 8 = c.run_plan.ensures.status (λ z. omega (arith, e)) (λ z. omega (arith, e)) in omega (arith, e, is))

pub returns-in-Some-clause-always_usage : goal.returns-in-Some-clause-always_usage
returns-in-Some-clause-always_usage g c = λ none other. absurd (none-some c.in-Some.ensures.value none)

pub returns-in-Some-clause-status : goal.returns-in-Some-clause-status
returns-in-Some-clause-status g c = λ some usage other. c.run_plan.ensures.status some other

pub returns-in-Some-clause-said : goal.returns-in-Some-clause-said
returns-in-Some-clause-said g c = λ t. rw (← c.in-Some.ensures.value) (c.run_plan.ensures.said t)

pub returns-in-Some-clause-unheld : goal.returns-in-Some-clause-unheld
returns-in-Some-clause-unheld g c = λ none. absurd (none-some c.in-Some.ensures.value none)

pub returns-in-Some-clause-count : goal.returns-in-Some-clause-count
returns-in-Some-clause-count g c = λ plan is e. c.run_plan.ensures.count e ∙ ap (λ (p : Plan). session_count p.calls) (same-plan c.in-Some.ensures.value is)

pub returns-in-None-clause-said : goal.returns-in-None-clause-said
returns-in-None-clause-said g c = λ t. rw (← c.in-None.ensures.value) (known-said 2 (omega arith) c.unheld.ensures.status (c.unheld.ensures.said t))

pub returns-in-Some-clause-held : goal.returns-in-Some-clause-held
returns-in-Some-clause-held g c = λ plan is e. held-by c.in-Some.plan plan c.run_plan.result.sessions.items c.run_plan.result.log.entries (same-plan c.in-Some.ensures.value is) (c.run_plan.ensures.held e)

pub returns-in-Some-clause-drilled : goal.returns-in-Some-clause-drilled
returns-in-Some-clause-drilled g c = λ plan is e. (held-by c.in-Some.plan plan c.run_plan.result.sessions.items c.run_plan.result.log.entries (same-plan c.in-Some.ensures.value is) (c.run_plan.ensures.held e)).done
