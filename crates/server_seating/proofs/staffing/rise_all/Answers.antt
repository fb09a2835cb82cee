use Rattle.std.proofs.Common.{rules, arith, refl, ap, ◌∙◌}
use Rattle.server_desks.specs.Desks.{with_speller}
use Rattle.server_desks.proofs.InStep.{moves-more}
use Rattle.server_seating.proofs.Starts.{moves-none, moves-all}
use Rattle.server_seating.proofs.staffing.rise_all.Goals as goal

pub loop-job-preserved : goal.loop-job-preserved
loop-job-preserved g c =
    let i = c.loop-job.invariant in
    record {
      can_next = tt;
      finite = tt;
      moves = moves-more _ _ _ _ _ _ c.in-Some.job (record { desk = c.with.result; clerk = c.rise-clerk.result.0; share = c.in-Some.job.gate.gate.share }) i.moves c.in-Some.ensures.steps.0 c.push_reserved.ensures.items (c.with.ensures ∙ ap (λ made. with_speller c.in-Some.job.desk made.1) c.rise-clerk.ensures, ap (λ made. made.0) c.rise-clerk.ensures, refl);
      room = search rules;
    }

pub loop-job-init : goal.loop-job-init
loop-job-init g c =
    record {
      can_next = tt;
      finite = tt;
      moves = moves-none _ _ _ _ (search rules) c.requires.none;
      room = search rules;
    }

pub returns-clause-count : goal.returns-clause-count
returns-clause-count g c = omega (arith, moves-all _ _ _ _ (omega (arith, c.in-None.ensures.steps.0, c.loop-job.job-iterator.rest.ok)) c.loop-job.invariant.moves, c.loop-job.risen.ok, c.args.jobs.ok)
