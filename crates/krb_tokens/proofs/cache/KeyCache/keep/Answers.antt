use Rattle.std.proofs.Common.{arith}
use Rattle.std.proofs.lemmas.Grind.{common_steps}
use Rattle.krb_tokens.proofs.cache.KeyCache.keep.Goals as goal

pub returns-then-is_none-2-clause-kept : goal.returns-then-is_none-2-clause-kept
returns-then-is_none-2-clause-kept c = grind (arith, common_steps)

pub returns-else-is_none-2-clause-kept : goal.returns-else-is_none-2-clause-kept
returns-else-is_none-2-clause-kept c = grind (arith, common_steps)
