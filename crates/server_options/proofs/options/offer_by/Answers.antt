use Rattle.std.proofs.Common.{rules}
use Rattle.server_options.proofs.options.offer_by.Goals as goal

pub returns-then-eq-4 : goal.returns-then-eq-4
returns-then-eq-4 c = search rules
