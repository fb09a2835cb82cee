use Rattle.std.proofs.Common.{arith}
use Rattle.rpc_msgs.proofs.XdrLaws.{word-spelled}
use Rattle.rpc_msgs.proofs.xdr_reader.word_in.Goals as goal

pub returns-clause-spelled : goal.returns-clause-spelled
returns-clause-spelled c =
    word-spelled c.args.left.now c.in_ok-octets.octets.now c.in_ok-octets.left.now c.args.end c.word_of.result (λ k. omega (arith, c.type_inv.left k)) c.in_ok-octets.ensures.read c.word_of.ensures.spelled
