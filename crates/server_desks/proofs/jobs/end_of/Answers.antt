use Rattle.std.proofs.Common.{◌+◌, arith}
use Rattle.server_desks.proofs.InTurn.{cut-next, end-next, end-whole}
use Rattle.server_desks.proofs.jobs.end_of.Goals as goal

pub loop-job-preserved : goal.loop-job-preserved
loop-job-preserved g c =
    let was = c.loop-job in
    let job = c.job-item.result in
    let cut = cut-next c.args.jobs.now was.job-index job c.loop-job-test.true c.job-item.is in record {
      number = omega (arith, was.invariant.number);
      rest = end-next c.args.jobs.now (λ one. one.end) was.job-index (was.number + 1) job was.end c.joined-end.result _ cut c.joined-end.ensures was.invariant.rest;
    }

pub returns : goal.returns
returns g c = end-whole c.args.jobs.now (λ one. one.end) c.loop-job.job-index (c.loop-job.number + 1) c.loop-job.end _ c.loop-job-test.false c.loop-job.invariant.rest
