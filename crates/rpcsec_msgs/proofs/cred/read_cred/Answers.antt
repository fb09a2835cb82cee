use Rattle.std.proofs.Common.{arith, ap, subst, ◌∙◌}
use Rattle.rpc_msgs.specs.Xdr.{Answers}
use Rattle.rpcsec_msgs.specs.Cred.{cred_value, cred_at}
use Rattle.rpcsec_msgs.proofs.CredLaws.{cred-only, cred-spelled}
use Rattle.rpcsec_msgs.proofs.cred.read_cred.Goals as goal

pub returns-clause-found : goal.returns-clause-found
returns-clause-found c = cred-spelled c.args.body.now c.cred_in.result (λ k. omega (arith, c.type_inv.body k)) c.cred_in.ensures

pub returns-clause-only : goal.returns-clause-only
returns-clause-only c = λ cred is e. subst (λ answer. Answers cred_value c.cred_in.result answer) (ap cred_at e ∙ cred-only cred is) c.cred_in.ensures
