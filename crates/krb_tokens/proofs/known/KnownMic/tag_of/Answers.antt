use Rattle.std.proofs.Common.{rules}
use Rattle.krb_tokens.proofs.known.KnownMic.tag_of.Goals as goal

pub returns-then-eq-4 : goal.returns-then-eq-4
returns-then-eq-4 c = search rules
