use Rattle.std.proofs.Common.{◌≡◌, ◌+◌, drop, map}
use Rattle.server_desks.specs.Desks.{end_behind}
use Rattle.server_options.specs.declared.ending.RunEnd.TheVariants.{Served}
use Rattle.server_desks.proofs.jobs.end_of.Given as goal

abbrev pub invariant-loop-job : goal.invariant-loop-job
invariant-loop-job g l = record {
  number : l.number ≡ l.job-index;
  rest : end_behind l.end (l.number + 1) (map (λ job. job.end) (drop l.job-index l.jobs)) ≡ end_behind Served 1 (map (λ job. job.end) l.fn.jobs);
}
