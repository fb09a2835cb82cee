use Rattle.der_core.proofs.PutFields.{is_found, is_read_again}
use Rattle.krb_msgs.specs.Authenticator.{authenticator_element}
use Rattle.krb_msgs.proofs.MessageLaws.{authenticator_law}
use Rattle.krb_msgs.proofs.authenticator.read_authenticator.Goals as goal

pub returns-clause-found : goal.returns-clause-found
unfolding authenticator_element
returns-clause-found c = is_found _ _ authenticator_law c.args.bytes.now c.read_whole.result (record { each = λ k. (c.type_inv.bytes k).fits }) c.read_whole.ensures

pub returns-clause-only : goal.returns-clause-only
unfolding authenticator_element
returns-clause-only c = λ v whole. is_read_again _ _ authenticator_law c.args.bytes.now c.read_whole.result v whole c.read_whole.ensures
