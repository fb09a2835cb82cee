use Rattle.der_core.proofs.SingleValues.{reads_spellings, flags_law}
use Rattle.der_core.proofs.reader.Reader.flags.Goals as goal

pub returns-clause-spelled : goal.returns-clause-spelled
returns-clause-spelled c = reads_spellings _ _ (flags_law) _ _ _ c.next_flags.ensures.octets c.next_flags.ensures.exact
