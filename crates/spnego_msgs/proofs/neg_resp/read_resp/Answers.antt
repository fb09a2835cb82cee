use Rattle.der_core.proofs.PutFields.{is_found, is_read_again}
use Rattle.spnego_msgs.proofs.TokenLaws.{neg_resp_law}
use Rattle.spnego_msgs.proofs.neg_resp.read_resp.Goals as goal

pub returns-clause-found : goal.returns-clause-found
returns-clause-found c = is_found _ _ neg_resp_law c.args.bytes.now c.neg_resp_of.result (record { each = λ k. (c.type_inv.bytes k).fits }) c.neg_resp_of.ensures

pub returns-clause-only : goal.returns-clause-only
returns-clause-only c = λ t whole. is_read_again _ _ neg_resp_law c.args.bytes.now c.neg_resp_of.result t whole c.neg_resp_of.ensures
