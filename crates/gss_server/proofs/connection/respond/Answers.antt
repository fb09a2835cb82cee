use Rattle.std.proofs.Common.{rules}
use Rattle.gss_server.proofs.connection.respond.Goals as goal

pub returns-in-NoMemory-clause-told : goal.returns-in-NoMemory-clause-told
returns-in-NoMemory-clause-told g c = search rules

pub returns-in-Ok-clause-told : goal.returns-in-Ok-clause-told
returns-in-Ok-clause-told g c = search rules
