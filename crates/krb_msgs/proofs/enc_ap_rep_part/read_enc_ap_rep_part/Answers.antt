use Rattle.der_core.proofs.PutFields.{is_found, is_read_again}
use Rattle.krb_msgs.specs.EncApRepPart.{enc_ap_rep_part_element}
use Rattle.krb_msgs.proofs.MessageLaws.{enc_ap_rep_part_law}
use Rattle.krb_msgs.proofs.enc_ap_rep_part.read_enc_ap_rep_part.Goals as goal

pub returns-clause-found : goal.returns-clause-found
unfolding enc_ap_rep_part_element
returns-clause-found c = is_found _ _ enc_ap_rep_part_law c.args.bytes.now c.read_whole.result (record { each = λ k. (c.type_inv.bytes k).fits }) c.read_whole.ensures

pub returns-clause-only : goal.returns-clause-only
unfolding enc_ap_rep_part_element
returns-clause-only c = λ v whole. is_read_again _ _ enc_ap_rep_part_law c.args.bytes.now c.read_whole.result v whole c.read_whole.ensures
