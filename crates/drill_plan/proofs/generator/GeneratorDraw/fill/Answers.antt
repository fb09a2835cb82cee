use Rattle.std.proofs.Common.{◌∙◌, ap, sym, arith}
use Rattle.std.proofs.lemmas.List.{take_more_set}
use Rattle.drill_plan.specs.Generator.{stepped}
use Rattle.drill_plan.proofs.Steps.{octets-push, steps-push}
use Rattle.drill_plan.proofs.generator.GeneratorDraw.fill.Goals as goal

pub loop-octet-preserved : goal.loop-octet-preserved
loop-octet-preserved c =
    let i = c.loop-octet.invariant in record {
      octets = rw (octets-push c.loop-octet.octet-index c.args.self.now.value, ← i.place, ← i.octets, ← c.next.ensures.octet) (take_more_set c.loop-octet.out c.loop-octet.octet-index c.next.result (omega (arith, c.loop-octet-test.true, c.loop-octet.auto)));
      place = c.next.ensures.value ∙ (ap stepped i.place ∙ sym (steps-push c.loop-octet.octet-index c.args.self.now.value));
    }
