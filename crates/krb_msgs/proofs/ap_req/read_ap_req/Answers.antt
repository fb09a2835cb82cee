use Rattle.der_core.proofs.PutFields.{is_found, is_read_again}
use Rattle.krb_msgs.specs.ApReq.{ap_req_element}
use Rattle.krb_msgs.proofs.MessageLaws.{ap_req_law}
use Rattle.krb_msgs.proofs.ap_req.read_ap_req.Goals as goal

pub returns-clause-found : goal.returns-clause-found
unfolding ap_req_element
returns-clause-found c = is_found _ _ ap_req_law c.args.bytes.now c.read_whole.result (record { each = λ k. (c.type_inv.bytes k).fits }) c.read_whole.ensures

pub returns-clause-only : goal.returns-clause-only
unfolding ap_req_element
returns-clause-only c = λ v whole. is_read_again _ _ ap_req_law c.args.bytes.now c.read_whole.result v whole c.read_whole.ensures
