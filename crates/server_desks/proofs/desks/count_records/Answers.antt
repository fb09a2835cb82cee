use Rattle.std.proofs.Common.{arith}
use Rattle.server_desks.specs.Desks.{IsSmall}
use Rattle.server_desks.proofs.InTurn.{cut-next, sum-next, sum-whole, all-next}
use Rattle.server_desks.proofs.desks.count_records.Goals as goal

pub loop-desk-preserved : goal.loop-desk-preserved
loop-desk-preserved g c =
    let was = c.loop-desk in
    let desk = c.desk-item.result in
    let cut = cut-next c.args.desks.now was.desk-index desk c.loop-desk-test.true c.desk-item.is in
    let each = all-next IsSmall c.args.desks.now was.desk-index desk cut was.invariant.each in record {
      sum = sum-next c.args.desks.now (λ one. one.records) was.desk-index desk was.records _ cut was.invariant.sum;
      small = omega (arith, was.invariant.small, each.0.few, each.0.within);
      each = each.1;
    }

pub returns : goal.returns
returns g c = sum-whole c.args.desks.now (λ one. one.records) c.loop-desk.desk-index c.loop-desk.records _ c.loop-desk-test.false c.loop-desk.invariant.sum
