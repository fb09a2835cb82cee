use Rattle.der_core.proofs.SingleValues.{reads_spellings, time_law}
use Rattle.der_core.proofs.reader.Reader.time.Goals as goal

pub returns-clause-spelled : goal.returns-clause-spelled
returns-clause-spelled c = reads_spellings _ _ (time_law) _ _ _ c.next_time.ensures.octets c.next_time.ensures.exact
