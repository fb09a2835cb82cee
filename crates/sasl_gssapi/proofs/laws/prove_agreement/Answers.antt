use Rattle.sasl_gssapi.proofs.Agreeing.{agree, join}
use Rattle.sasl_gssapi.proofs.laws.prove_agreement.Goals as goal

pub returns-clause-agree : goal.returns-clause-agree
returns-clause-agree c = agree

pub returns-clause-join : goal.returns-clause-join
returns-clause-join c = join
