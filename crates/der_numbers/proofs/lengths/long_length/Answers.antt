use Rattle.std.proofs.Common.{rules}
use Rattle.der_numbers.proofs.lengths.long_length.Goals as goal

pub returns : goal.returns
returns c = search rules
