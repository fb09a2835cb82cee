use Rattle.std.proofs.Common.{rules}
use Rattle.cli_base.proofs.lines.say.Goals as goal

pub returns-in-Err-clause-said : goal.returns-in-Err-clause-said
returns-in-Err-clause-said g c = search rules
