use Rattle.world_laws.proofs.Running.{law-kerberos, law-scram, law}
use Rattle.world_laws.proofs.laws.prove_agreement.Goals as goal

pub returns-clause-kerberos : goal.returns-clause-kerberos
returns-clause-kerberos c = law-kerberos c.tell_below.ensures

pub returns-clause-scram : goal.returns-clause-scram
returns-clause-scram c = law-scram c.tell_below.ensures

pub returns-clause-agreement : goal.returns-clause-agreement
returns-clause-agreement c = law c.tell_below.ensures
