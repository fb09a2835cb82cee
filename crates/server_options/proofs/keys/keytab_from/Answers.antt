use Rattle.std.proofs.Common.{rules}
use Rattle.server_options.proofs.keys.keytab_from.Goals as goal

pub returns-in-Ok-clause-value : goal.returns-in-Ok-clause-value
returns-in-Ok-clause-value g c = search rules
