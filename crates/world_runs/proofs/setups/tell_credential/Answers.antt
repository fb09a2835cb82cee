use Rattle.std.proofs.Common.{rules}
use Rattle.world_runs.proofs.setups.tell_credential.Goals as goal

pub returns-in-Kerberos : goal.returns-in-Kerberos
returns-in-Kerberos c = search rules
