use Rattle.std.proofs.Common.{arith}
use Rattle.krb_derive.proofs.Tags.{tag_more}
use Rattle.krb_derive.proofs.checks.is_tag.Goals as goal

pub octets-preserved : goal.octets-preserved
octets-preserved c = tag_more c.args.computed.now c.args.tag.now c.octets.i c.octets.same (omega arith) (omega arith) c.octets.invariant
