use Rattle.std.proofs.Common.{arith}
use Rattle.der_core.proofs.SingleValues.{reads_spellings, natural_law}
use Rattle.der_core.proofs.reader.Reader.natural.Goals as goal

pub returns-clause-spelled : goal.returns-clause-spelled
returns-clause-spelled c = reads_spellings _ _ (natural_law c.args.low c.args.high (omega (arith, c.ranges.high))) _ _ _ c.next_natural.ensures.octets c.next_natural.ensures.exact
