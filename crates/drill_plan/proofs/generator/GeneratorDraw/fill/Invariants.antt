use Rattle.std.proofs.Common.{◌≡◌, take}
use Rattle.drill_plan.specs.Generator.{octets_from, after_steps}
use Rattle.drill_plan.proofs.generator.GeneratorDraw.fill.Given as goal

abbrev pub invariant-loop-octet : goal.invariant-loop-octet
invariant-loop-octet l = record {
  octets : take l.octet-index l.out ≡ octets_from l.octet-index l.fn.self.value;
  place : l.self.value ≡ after_steps l.octet-index l.fn.self.value;
}
