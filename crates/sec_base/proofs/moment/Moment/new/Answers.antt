use Rattle.std.proofs.Common.{arith, rules}
use Rattle.sec_base.proofs.moment.Moment.new.Goals as goal

pub invariant_of-result : goal.invariant_of-result
invariant_of-result c = omega arith

pub returns : goal.returns
returns c = search rules
