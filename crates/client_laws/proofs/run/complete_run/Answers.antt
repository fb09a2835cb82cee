use Rattle.client_laws.proofs.ClientRuns.{has-completed}
use Rattle.client_laws.proofs.run.complete_run.Goals as goal

pub returns-clause-completes : goal.returns-clause-completes
returns-clause-completes g c = λ asked creds is told due tells server calm still other.
    let begun = c.run_client-end.ensures.complete asked creds is told due calm still other in
    has-completed asked creds c.tell_outcome.ensures is told due (c.run_client-end.ensures.spoke begun.0 tells) server begun.1 other
