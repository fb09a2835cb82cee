use Rattle.std.proofs.Common.{arith, ap, subst, ◌∙◌}
use Rattle.rpc_msgs.specs.Xdr.{Answers}
use Rattle.rpcsec_msgs.specs.Bodies.{sealed_at}
use Rattle.rpcsec_msgs.proofs.BodyLaws.{sealed-only, sealed-spelled}
use Rattle.rpcsec_msgs.proofs.bodies.split_sealed.Goals as goal

pub returns-clause-found : goal.returns-clause-found
returns-clause-found c = sealed-spelled c.args.bytes.now c.sealed_in.result (λ k. omega (arith, c.type_inv.bytes k)) c.sealed_in.ensures

pub returns-clause-only : goal.returns-clause-only
returns-clause-only c = λ token long e. subst (λ answer. Answers (λ t. t.now) c.sealed_in.result answer) (ap sealed_at e ∙ sealed-only token long) c.sealed_in.ensures
