use Rattle.der_core.proofs.SingleValues.{reads_spellings, text_law}
use Rattle.der_core.proofs.reader.Reader.text.Goals as goal

pub returns-clause-spelled : goal.returns-clause-spelled
returns-clause-spelled c = reads_spellings _ _ (text_law) _ _ _ c.next_text.ensures.octets c.next_text.ensures.exact
