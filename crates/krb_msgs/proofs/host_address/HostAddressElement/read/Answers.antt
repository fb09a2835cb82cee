use Rattle.krb_msgs.specs.HostAddress.{host_address}
use Rattle.krb_msgs.proofs.host_address.HostAddressElement.read.Goals as goal

pub returns : goal.returns
unfolding host_address
returns c = c.read_sequence.ensures
