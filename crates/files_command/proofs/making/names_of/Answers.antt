use Rattle.ap_exchange.specs.Request.{name_value}
use Rattle.krb_msgs.proofs.Named.{realm_free, is_name}
use Rattle.files_command.proofs.making.names_of.Goals as goal

pub returns-clause-realm : goal.returns-clause-realm
returns-clause-realm c =
    rw (c.in_ok-realm.ensures, c.realm.ensures) (realm_free c.args.principal.now.realm c.args.principal.now.parts c.label-label.ensures.named)

pub returns-clause-name : goal.returns-clause-name
returns-clause-name c =
    rw (c.in_ok-realm.ensures, c.realm.ensures, c.of-2.ensures, c.in_ok-parts.ensures, c.parts.ensures) (is_name c.args.principal.now.realm (name_value c.args.principal.now) c.label-label.ensures.named)
