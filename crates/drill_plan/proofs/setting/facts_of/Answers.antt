use Rattle.std.proofs.Common.{refl, subst}
use Rattle.drill_plan.specs.Setting.{CredOpens}
use Rattle.drill_plan.proofs.setting.facts_of.Goals as goal

pub returns-clause-is : goal.returns-clause-is
returns-clause-is c = rw (c.in_ok-list.ensures.is, c.kind_of.ensures, c.fill.ensures.octets) refl

pub returns-clause-opens : goal.returns-clause-opens
returns-clause-opens c = subst CredOpens c.kind_of.ensures c.in_ok-list.ensures.opens
