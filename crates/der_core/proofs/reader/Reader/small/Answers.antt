use Rattle.der_core.proofs.SingleValues.{reads_spellings, small_law}
use Rattle.der_core.proofs.reader.Reader.small.Goals as goal

pub returns-clause-spelled : goal.returns-clause-spelled
returns-clause-spelled c = reads_spellings _ _ (small_law) _ _ _ c.next_small.ensures.octets c.next_small.ensures.exact
