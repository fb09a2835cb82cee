use Rattle.krb_msgs.specs.AuthorizationDatum.{authorization_datum}
use Rattle.krb_msgs.proofs.authorization_datum.AuthorizationDatumElement.read.Goals as goal

pub returns : goal.returns
unfolding authorization_datum
returns c = c.read_sequence.ensures
