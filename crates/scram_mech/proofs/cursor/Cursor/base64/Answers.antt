use Rattle.scram_mech.proofs.ValueFacts.{base64-spelled, base64-range, at_start}
use Rattle.scram_mech.proofs.cursor.Cursor.base64.Goals as goal

pub invariant_of-result : goal.invariant_of-result
invariant_of-result c = record {
  spelled = base64-spelled c.args.least c.args.most c.args.self.now c.in_ok-signs.signs.now c.value.new.self (at_start _ c.base64.result c.args.self.now c.in_ok-signs.signs.now c.value.new.self c.base64.ensures c.in_ok-signs.ensures);
}

pub returns-clause-range : goal.returns-clause-range
returns-clause-range c = base64-range c.args.least c.args.most c.args.self.now c.in_ok-signs.signs.now c.value.new.self (at_start _ c.base64.result c.args.self.now c.in_ok-signs.signs.now c.value.new.self c.base64.ensures c.in_ok-signs.ensures)
