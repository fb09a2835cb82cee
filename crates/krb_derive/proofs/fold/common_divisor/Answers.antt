use Rattle.std.proofs.Common.{◌<◌, ◌∙◌, sym, arith}
use Rattle.krb_derive.proofs.Divisors.{divisor_up_to-less, divisor_up_to-here, above_one}
use Rattle.krb_derive.proofs.fold.common_divisor.Goals as goal

pub loop-divisor-preserved : goal.loop-divisor-preserved
loop-divisor-preserved c =
    let fails = sym c.divides_both.ensures ∙ c.loop-divisor-test.true in
    let more : 1 < c.loop-divisor.divisor = above_one c.loop-divisor.divisor c.args.a c.args.b c.loop-divisor.invariant.0 fails in
    (omega arith, divisor_up_to-less c.loop-divisor.divisor c.args.a c.args.b c.loop-divisor.invariant.0 fails ∙ c.loop-divisor.invariant.1)

pub returns : goal.returns
returns c =
    let holds = sym c.divides_both.ensures ∙ c.loop-divisor-test.false in
    record {
      value = sym (divisor_up_to-here c.loop-divisor.divisor c.args.a c.args.b c.loop-divisor.invariant.0 holds) ∙ c.loop-divisor.invariant.1;
      some = c.loop-divisor.invariant.0;
    }
