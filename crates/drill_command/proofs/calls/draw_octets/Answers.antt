use Rattle.std.proofs.Common.{◌∙◌, ◌+◌, ℕ, [], ◌∷◌, length, ap, arith}
use Rattle.std.proofs.lemmas.List.{length-append}
use Rattle.drill_plan.proofs.Steps.{octets-more, octets-done, steps-more, steps-done}
use Rattle.drill_command.proofs.calls.draw_octets.Goals as goal

pub loop-number-preserved : goal.loop-number-preserved
loop-number-preserved c =
    let i = c.loop-number.invariant in record {
      value = rw (c.in_ok-push.ensures.items, c.next-octet.ensures.octet, c.next-octet.ensures.value) (octets-more c.loop-number.octets.items c.args.count c.loop-number.number c.loop-number.generator.value _ c.loop-number-test.true i.value);
      place = rw c.next-octet.ensures.value (steps-more c.args.count c.loop-number.number c.loop-number.generator.value _ c.loop-number-test.true i.place);
      count = ap length c.in_ok-push.ensures.items ∙ (length-append c.loop-number.octets.items (c.next-octet.result ∷ []) ∙ ap (λ (n : ℕ). n + 1) i.count);
    }

pub returns-clause-value : goal.returns-clause-value
returns-clause-value c =
    octets-done c.loop-number.octets.items c.args.count c.loop-number.number c.loop-number.generator.value _ (omega (arith, c.loop-number-test.false)) c.loop-number.invariant.value

pub returns-clause-place : goal.returns-clause-place
returns-clause-place c =
    steps-done c.args.count c.loop-number.number c.loop-number.generator.value _ (omega (arith, c.loop-number-test.false)) c.loop-number.invariant.place

pub returns-clause-count : goal.returns-clause-count
returns-clause-count c = omega (arith, c.loop-number.invariant.count, c.loop-number-test.false, c.loop-number.auto)
