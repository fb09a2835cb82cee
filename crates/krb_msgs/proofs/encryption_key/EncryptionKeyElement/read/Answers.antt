use Rattle.krb_msgs.specs.EncryptionKey.{encryption_key}
use Rattle.krb_msgs.proofs.encryption_key.EncryptionKeyElement.read.Goals as goal

pub returns : goal.returns
unfolding encryption_key
returns c = c.read_sequence.ensures
