use Rattle.std.proofs.Common.{rules}
use Rattle.gss_client.proofs.answer.is_own.Goals as goal

pub returns : goal.returns
returns c = search rules
