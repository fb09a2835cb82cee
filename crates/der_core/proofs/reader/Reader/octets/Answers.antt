use Rattle.der_core.proofs.SingleValues.{reads_spellings, octet_string_law}
use Rattle.der_core.proofs.reader.Reader.octets.Goals as goal

pub returns-clause-spelled : goal.returns-clause-spelled
returns-clause-spelled c = reads_spellings _ _ (octet_string_law) _ _ _ c.next_octets.ensures.octets c.next_octets.ensures.exact
