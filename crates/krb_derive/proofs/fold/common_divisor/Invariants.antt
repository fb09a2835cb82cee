use Rattle.std.proofs.Common.{◌≡◌, ◌<◌, min}
use Rattle.krb_derive.specs.Fold.{divisor_up_to}
use Rattle.krb_derive.proofs.fold.common_divisor.Given as goal

abbrev pub invariant-loop-divisor : goal.invariant-loop-divisor
invariant-loop-divisor l = (0 < l.divisor) × (divisor_up_to l.divisor l.a l.b ≡ divisor_up_to (min l.a l.b) l.a l.b)

abbrev pub decreases-loop-divisor : goal.decreases-loop-divisor
decreases-loop-divisor l = l.divisor
