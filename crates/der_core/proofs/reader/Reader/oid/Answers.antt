use Rattle.der_core.proofs.SingleValues.{reads_spellings, object_identifier_law}
use Rattle.der_core.proofs.reader.Reader.oid.Goals as goal

pub returns-clause-spelled : goal.returns-clause-spelled
returns-clause-spelled c = reads_spellings _ _ (object_identifier_law) _ _ _ c.next_oid.ensures.octets c.next_oid.ensures.exact
