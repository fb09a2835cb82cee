use Rattle.std.proofs.Common.{rules}
use Rattle.mech_words.proofs.names.mech_named.Goals as goal

pub returns-then-eq-2 : goal.returns-then-eq-2
returns-then-eq-2 c = search rules
