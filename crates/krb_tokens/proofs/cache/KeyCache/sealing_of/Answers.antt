use Rattle.std.proofs.Common.{rules}
use Rattle.krb_tokens.proofs.cache.KeyCache.sealing_of.Goals as goal

pub returns-in-Some-clause-sealing : goal.returns-in-Some-clause-sealing
returns-in-Some-clause-sealing c = search rules

pub returns-in-Some-clause-end : goal.returns-in-Some-clause-end
returns-in-Some-clause-end c = search rules
