use Rattle.std.proofs.Common.{rules}
use Rattle.server_desks.specs.Desks.{IsFresh}
use Rattle.service_kit.proofs.FreshDesks.{pushed}
use Rattle.service_kit.proofs.devices.desks_at.Goals as goal

pub loop-number-preserved : goal.loop-number-preserved
loop-number-preserved g c =
    let i = c.loop-number.invariant in
    record {
      count = search rules;
      room = search rules;
      fresh = rw c.push_reserved.ensures.items (pushed IsFresh _ _ i.fresh c.desk.ensures);
      hire = i.hire;
    }
