use Rattle.std.proofs.Common.{rules}
use Rattle.cli_base.proofs.files.load.Goals as goal

pub returns-in-Err-TooLong-clause-fault : goal.returns-in-Err-TooLong-clause-fault
returns-in-Err-TooLong-clause-fault g c = search rules
