use Rattle.std.proofs.Common.{rules}
use Rattle.krb_tokens.proofs.end.TokenEnd.is_from_other.Goals as goal

pub returns : goal.returns
returns c = search rules
