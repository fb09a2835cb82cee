use Rattle.std.proofs.Common.{refl, subst}
use Rattle.drill_plan.specs.Setting.{CredOpens}
use Rattle.drill_plan.proofs.setting.start_of.Goals as goal

pub returns-clause-is : goal.returns-clause-is
returns-clause-is g c = rw (c.in_ok-list.ensures.is, c.kind_of.ensures, c.fill.ensures.octets, c.terms_of.ensures) refl

pub returns-clause-opens : goal.returns-clause-opens
returns-clause-opens g c = subst CredOpens c.kind_of.ensures c.in_ok-list.ensures.opens
