use Rattle.std.proofs.Common.{rules, refl}
use Rattle.files_command.specs.Making.{credential_for}
use Rattle.drill_plan.proofs.Ticket.{credential-is, granted-is}
use Rattle.drill_plan.proofs.setting.ticket.Goals as goal

pub returns-in-Ok-clause-is : goal.returns-in-Ok-clause-is
unfolding credential_for
returns-in-Ok-clause-is c = let is = granted-is c.in-Ok.granted (search rules) in rw is refl

pub returns-in-Ok-clause-opens : goal.returns-in-Ok-clause-opens
unfolding credential_for
returns-in-Ok-clause-opens c =
    let is = granted-is c.in-Ok.granted (search rules) in
    rw (c.in_ok-client.ensures, c.in_ok-key.ensures, is) at c.in-Ok.ensures.opens

pub unreachable-requires : goal.unreachable-requires
unreachable-requires c = search (rules, credential-is)
