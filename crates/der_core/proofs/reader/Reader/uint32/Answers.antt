use Rattle.der_core.proofs.SingleValues.{reads_spellings, uint32_law}
use Rattle.der_core.proofs.reader.Reader.uint32.Goals as goal

pub returns-clause-spelled : goal.returns-clause-spelled
returns-clause-spelled c = reads_spellings _ _ (uint32_law) _ _ _ c.next_natural.ensures.octets c.next_natural.ensures.exact
