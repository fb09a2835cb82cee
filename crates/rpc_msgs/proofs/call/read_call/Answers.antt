use Rattle.std.proofs.Common.{arith, ap, subst, ◌∙◌}
use Rattle.rpc_msgs.specs.Xdr.{Answers}
use Rattle.rpc_msgs.specs.Calls.{call_value, call_at}
use Rattle.rpc_msgs.proofs.CallLaws.{call-only, call-spelled}
use Rattle.rpc_msgs.proofs.call.read_call.Goals as goal

pub returns-clause-spelled : goal.returns-clause-spelled
returns-clause-spelled c = call-spelled c.args.bytes.now c.call_in.result (λ k. omega (arith, c.type_inv.bytes k)) c.call_in.ensures

pub returns-clause-only : goal.returns-clause-only
returns-clause-only c = λ call is e. subst (λ answer. Answers call_value c.call_in.result answer) (ap call_at e ∙ call-only call is) c.call_in.ensures
