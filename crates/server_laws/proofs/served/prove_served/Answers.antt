use Rattle.server_laws.proofs.Runs.{served, all-served}
use Rattle.server_laws.proofs.served.prove_served.Goals as goal

pub returns-clause-record : goal.returns-clause-record
returns-clause-record c = served

pub returns-clause-records : goal.returns-clause-records
returns-clause-records c = all-served
