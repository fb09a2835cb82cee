use Rattle.scram_mech.proofs.ValueFacts.{line-named, at_start}
use Rattle.scram_mech.proofs.cursor.Cursor.line_name.Goals as goal

pub label_of-requires : goal.label_of-requires
label_of-requires c = line-named c.args.self.now c.in_ok-name.name.now c.value.new.self (at_start _ c.some.result c.args.self.now c.in_ok-name.name.now c.value.new.self c.some.ensures c.in_ok-name.ensures)
