use Rattle.krb_msgs.specs.EncryptedData.{encrypted_data}
use Rattle.krb_msgs.proofs.encrypted_data.EncryptedDataElement.read.Goals as goal

pub returns : goal.returns
unfolding encrypted_data
returns c = c.read_sequence.ensures
