use Rattle.der_core.proofs.SingleValues.{reads_spellings, int32_law}
use Rattle.der_core.proofs.reader.Reader.int32.Goals as goal

pub returns-clause-spelled : goal.returns-clause-spelled
returns-clause-spelled c = reads_spellings _ _ (int32_law) _ _ _ c.next_int32.ensures.octets c.next_int32.ensures.exact
