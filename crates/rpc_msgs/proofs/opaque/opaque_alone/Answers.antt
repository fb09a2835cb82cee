use Rattle.std.proofs.Common.{sym, ap, ◌∙◌}
use Rattle.rpc_msgs.specs.Xdr.{Input}
use Rattle.rpc_msgs.proofs.Alone.{none-left, is-opaque}
use Rattle.rpc_msgs.proofs.opaque.opaque_alone.Goals as goal

pub returns-clause-spelled : goal.returns-clause-spelled
returns-clause-spelled c = (c.in_ok-value.ensures.spelled.0, is-opaque c.args.octets.now c.in_ok-value.value.now c.opaque.new.self.octets (sym (ap (λ (i : Input). i.octets) c.new-reader.ensures) ∙ c.in_ok-value.ensures.spelled.1) (none-left c.opaque.new.self c.in_ok-end.field-0 c.in_ok-end.ensures))
