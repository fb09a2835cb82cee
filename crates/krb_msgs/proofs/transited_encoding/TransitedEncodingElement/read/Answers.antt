use Rattle.krb_msgs.specs.TransitedEncoding.{transited_encoding}
use Rattle.krb_msgs.proofs.transited_encoding.TransitedEncodingElement.read.Goals as goal

pub returns : goal.returns
unfolding transited_encoding
returns c = c.read_sequence.ensures
