use Rattle.std.proofs.Common.{List, ℕ, arith, ap, subst, ◌∙◌}
use Rattle.rpc_msgs.specs.Xdr.{Answers}
use Rattle.rpcsec_msgs.specs.Bodies.{checked_at}
use Rattle.rpcsec_msgs.proofs.BodyLaws.{checked-only, checked-spelled}
use Rattle.rpcsec_msgs.proofs.bodies.split_checked.Goals as goal

pub returns-clause-found : goal.returns-clause-found
returns-clause-found c = checked-spelled c.args.bytes.now c.checked_in.result (λ k. omega (arith, c.type_inv.bytes k)) c.checked_in.ensures

pub returns-clause-only : goal.returns-clause-only
returns-clause-only c = λ body tag long other e.
    subst (λ answer. Answers {B = List ℕ × List ℕ} (λ p. (p.0.now, p.1.now)) c.checked_in.result answer) (ap checked_at e ∙ checked-only body tag long other) c.checked_in.ensures
