use Rattle.std.proofs.Common.{arith}
use Rattle.rpc_msgs.proofs.XdrLaws.{opaque-spelled}
use Rattle.rpc_msgs.proofs.xdr_reader.opaque_in.Goals as goal

pub returns-clause-spelled : goal.returns-clause-spelled
returns-clause-spelled c =
    opaque-spelled c.args.limit c.in_ok-size.size c.args.end c.args.left.now c.in_ok-octets.octets.now c.in_ok-size.behind.now c.in_ok-octets.behind.now c.in_ok-behind.behind.now (λ k. omega (arith, c.type_inv.left k)) c.if-size-limit.false c.in_ok-size.ensures.spelled c.in_ok-octets.ensures.read c.in_ok-behind.ensures.read
