use Rattle.std.proofs.Common.{refl}
use Rattle.server_desks.proofs.DeskRuns.{served-as, adds-one}
use Rattle.server_desks.proofs.desk.serve_next.Goals as goal

pub returns-clause-served : goal.returns-clause-served
returns-clause-served g c =
    let told = c.serve_link-served.ensures in
    let made = told.served in
    adds-one c.args.link c.serve_link-served.result made.kept
    (record {
      served = served-as (λ asked p. p.answers) made.holds.1;
      counted = made.holds.0;
      most = told.most;
      always = told.always;
      fault = told.fault;
      faultless = told.faultless;
      closed = told.closed;
    })
    made.given made.timed made.drawn c.keep.ensures refl refl
