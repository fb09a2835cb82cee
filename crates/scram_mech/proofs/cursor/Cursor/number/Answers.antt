use Rattle.scram_mech.proofs.ValueFacts.{number-digits}
use Rattle.scram_mech.proofs.cursor.Cursor.number.Goals as goal

pub invariant_of-result : goal.invariant_of-result
invariant_of-result c = record { decimal = number-digits c.args.self.now c.in_ok-digits.digits.now c.value.new.self c.in_ok-digits.ensures }
