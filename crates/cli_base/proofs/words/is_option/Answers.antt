use Rattle.std.proofs.Common.{rules}
use Rattle.cli_base.proofs.words.is_option.Goals as goal

pub returns : goal.returns
returns c = search rules
