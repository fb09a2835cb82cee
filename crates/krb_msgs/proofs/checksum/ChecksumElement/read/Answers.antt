use Rattle.krb_msgs.specs.Checksum.{checksum}
use Rattle.krb_msgs.proofs.checksum.ChecksumElement.read.Goals as goal

pub returns : goal.returns
unfolding checksum
returns c = c.read_sequence.ensures
