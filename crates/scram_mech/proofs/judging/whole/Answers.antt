use Rattle.scram_mech.proofs.ValueFacts.{whole-few, nothing_left, at_start}
use Rattle.scram_mech.proofs.judging.whole.Goals as goal

pub returns-clause-few : goal.returns-clause-few
returns-clause-few c =
    let octets = c.new-cursor.result in
    let value = c.in_ok-value.value.now in
    let few = whole-few c.args.class c.args.most octets value c.value.new.self (at_start _ c.some.result octets value c.value.new.self c.some.ensures c.in_ok-value.ensures) (nothing_left c.value.new.self c.end.new.self c.in_ok-end.field-0 c.in_ok-end.ensures) in
    rw (← c.new-cursor.ensures) few
