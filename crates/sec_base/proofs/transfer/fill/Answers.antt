use Rattle.std.proofs.Common.{arith, sym, ◌≤◌, length, ◌∙◌}
use Rattle.std.proofs.lemmas.Grind.{common_steps}
use Rattle.sec_base.proofs.InARow.{taken-again, taken-same, take-put_mid-add}
use Rattle.sec_base.proofs.transfer.fill.Goals as goal

pub loop-at-preserved : goal.loop-at-preserved
loop-at-preserved g c =
    let fits : c.in-Ok.count ≤ length c.read.new.buf = grind (arith, common_steps, c.in-Ok.ensures.count, c.read.auto.buf) in
    record {
      range = grind (arith, common_steps, c.in-Ok.ensures.count, c.read.auto.buf);
      told = taken-same (taken-again c.loop-at.invariant.tells c.loop-at.invariant.told c.in-Ok.ensures.told.0)
          (sym (take-put_mid-add c.loop-at.at _ c.in-Ok.count c.loop-at.buf c.read.new.buf c.loop-at.invariant.range fits));
      tells = c.in-Ok.ensures.tells ∙ c.loop-at.invariant.tells;
      unclosed = c.in-Ok.ensures.unclosed;
      faults = omega (arith, c.in-Ok.ensures.faults);
      steady = c.in-Ok.ensures.steady ∙ c.loop-at.invariant.steady;
    }
