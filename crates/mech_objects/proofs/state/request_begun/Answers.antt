use Rattle.std.proofs.Common.{◌≡◌, ◌≤◌, true, length, subst}
use Rattle.gss_base.specs.Principal.{is_named}
use Rattle.krb_files.specs.Granted.{Granted}
use Rattle.spnego_core.proofs.ShortInit.{request_fits}
use Rattle.mech_objects.proofs.state.request_begun.Goals as goal

abbrev IsTicketShort : Granted → Type 0
IsTicketShort g = length g.ticket ≤ 60000

abbrev IsClientNamed : Granted → Type 0
IsClientNamed g = is_named g.client.realm g.client.parts ≡ true

pub returns-in-Ok-clause-short : goal.returns-in-Ok-clause-short
returns-in-Ok-clause-short c =
    request_fits c.args.credential.now c.args.stamp c.args.draws.now _ c.in-Ok.end c.in-Ok.token c.in-Ok.ensures.exact c.told-draws
    (subst IsTicketShort c.credential.view_is c.credential.invariant) (subst IsClientNamed c.credential.view_is c.label-label.ensures.named) c.in-Ok.ensures.fits
