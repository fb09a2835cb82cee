use Rattle.der_core.proofs.SingleValues.{reads_spellings, raw_element_law}
use Rattle.der_core.proofs.reader.Reader.raw.Goals as goal

pub returns-clause-spelled : goal.returns-clause-spelled
returns-clause-spelled c = reads_spellings _ _ (raw_element_law (c.args.tag)) _ _ _ c.next_raw.ensures.octets c.next_raw.ensures.exact
