use Rattle.std.proofs.Common.{◌+◌, ◌*◌, ◌<◌, arith}
use Rattle.replay_cache.specs.Taking.{skew}
use Rattle.replay_journal.specs.Journals.{records_of, HasBase}
use Rattle.replay_journal.proofs.Moments.{goes_as}
use Rattle.replay_journal.proofs.Putting.{base-due}
use Rattle.replay_journal.proofs.Standing.{refreshed-anew}
use Rattle.replay_journal.proofs.journal.refresh.Goals as goal

pub returns-in-Ok-clause-images : goal.returns-in-Ok-clause-images
returns-in-Ok-clause-images g c t =
    let d0 = c.args.disk.now in
    let due : 2 * c.args.held + 1 < c.args.count = omega (arith, c.if-count-held.false) in
    let records = records_of g.K.Disk d0 in
    goes_as g.K.Disk.moment g.K.Disk.left_since d0 c.renew.new.disk (HasBase (Unit {0}) c.args.greatest records) (HasBase (2 * c.args.held + 1 < c.args.count) c.args.greatest records)
    (c.renew.ensures.images t) (base-due (2 * c.args.held + 1 < c.args.count) c.args.greatest records due)

pub returns-in-Ok-clause-stands : goal.returns-in-Ok-clause-stands
returns-in-Ok-clause-stands g c t =
    let due : 2 * c.args.held + 1 < c.args.count = omega (arith, c.if-count-held.false) in
    let late : skew < c.args.greatest = omega (arith, c.if-total-le-SKEW.false, c.total.ensures.value) in
    refreshed-anew g.K.Disk (2 * c.args.held + 1 < c.args.count) c.args.disk.now c.renew.new.disk c.args.greatest c.in-Ok.now due late (c.in-Ok.ensures.done t)
