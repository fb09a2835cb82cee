use Rattle.std.proofs.Common.{arith}
use Rattle.drill_command.proofs.Stepping.{calls-done, called-more, after_calls-more, after_calls-done}
use Rattle.drill_command.proofs.calls.draw_calls.Goals as goal

pub loop-number-preserved : goal.loop-number-preserved
loop-number-preserved c =
    let i = c.loop-number.invariant in record {
      value = called-more c.loop-number.calls.items c.push.new.self.items c.in_ok-call.call c.args.count c.loop-number.number c.loop-number.generator.value c.draw_call.new.generator.value _ c.loop-number-test.true c.in_ok-push.ensures.items c.in_ok-call.ensures.value c.in_ok-call.ensures.place i.value;
      place = rw c.in_ok-call.ensures.place (after_calls-more c.args.count c.loop-number.number c.loop-number.generator.value _ c.loop-number-test.true i.place);
    }

pub returns-clause-value : goal.returns-clause-value
returns-clause-value c =
    calls-done _ c.args.count c.loop-number.number c.loop-number.generator.value _ (omega (arith, c.loop-number-test.false)) c.loop-number.invariant.value

pub returns-clause-place : goal.returns-clause-place
returns-clause-place c =
    after_calls-done c.args.count c.loop-number.number c.loop-number.generator.value _ (omega (arith, c.loop-number-test.false)) c.loop-number.invariant.place
