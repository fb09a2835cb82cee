use Rattle.std.proofs.Common.{arith, sym, ◌+◌, ◌∙◌}
use Rattle.std.proofs.lemmas.Grind.{common_steps}
use Rattle.sec_base.proofs.InARow.{written-again, written-same, take-piece}
use Rattle.sec_base.proofs.transfer.send.Goals as goal

pub loop-at-preserved : goal.loop-at-preserved
loop-at-preserved g c = record {
  range = grind (arith, common_steps, c.in-Ok.ensures.count);
  told = written-same (written-again c.loop-at.invariant.tells c.loop-at.invariant.told c.in-Ok.ensures.told)
      (sym (take-piece c.loop-at.at c.in-Ok.count c.args.octets.now));
  tells = c.in-Ok.ensures.tells ∙ c.loop-at.invariant.tells;
  unclosed = c.in-Ok.ensures.unclosed;
  faults = omega (arith, c.in-Ok.ensures.faults);
  steady = c.in-Ok.ensures.steady ∙ c.loop-at.invariant.steady;
}

pub returns-in-Err-clause-told : goal.returns-in-Err-clause-told
returns-in-Err-clause-told g c =
    let sent = c.in-Err.ensures.told in (
      c.loop-at.at + sent.0,
      written-same (written-again c.loop-at.invariant.tells c.loop-at.invariant.told sent.1)
          (sym (take-piece c.loop-at.at sent.0 c.args.octets.now)),
    )
