use Rattle.files_command.proofs.SpelledKeytab.{keytab_whole, keytab_back}
use Rattle.files_command.proofs.keytab_file.write_keytab.Goals as goal

pub returns-clause-spelled : goal.returns-clause-spelled
returns-clause-spelled c = keytab_whole c.keytab_octets.result c.args.service.now c.keytab_octets.ensures.written c.keytab_octets.ensures.is

pub returns-clause-found : goal.returns-clause-found
returns-clause-found c = keytab_back c.keytab_octets.result c.args.service.now c.keytab_octets.ensures.written c.keytab_octets.ensures.is
