use Rattle.der_core.proofs.SingleValues.{elements_read}
use Rattle.der_core.proofs.reader.Reader.tlv.Goals as goal

pub returns-clause-spelled : goal.returns-clause-spelled
returns-clause-spelled c = elements_read c.args.tag _ _ _ c.element.ensures.octets c.element.ensures.exact
