use Rattle.std.proofs.Common.{arith, ap, subst, ◌∙◌}
use Rattle.rpc_msgs.specs.Xdr.{MayAnswer}
use Rattle.rpcsec_msgs.specs.InitRes.{init_res_at}
use Rattle.rpcsec_msgs.proofs.InitResLaws.{init_res-only, init_res-spelled}
use Rattle.rpcsec_msgs.proofs.init_res.read_init_res.Goals as goal

pub returns-clause-found : goal.returns-clause-found
returns-clause-found c = init_res-spelled c.args.bytes.now c.init_res_in.result (λ k. omega (arith, c.type_inv.bytes k)) c.init_res_in.ensures

pub returns-clause-only : goal.returns-clause-only
returns-clause-only c = λ v is e. subst (λ answer. MayAnswer (λ x. x) c.init_res_in.result answer) (ap init_res_at e ∙ init_res-only v is) c.init_res_in.ensures
