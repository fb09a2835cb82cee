use Rattle.aes_cts.proofs.Inverses.{inverse-lt, times-inverse, inverse-zero}
use Rattle.aes_cts.proofs.laws.prove_field_inverse.Goals as goal

pub returns-clause-inverse : goal.returns-clause-inverse
returns-clause-inverse c = times-inverse

pub returns-clause-octet : goal.returns-clause-octet
returns-clause-octet c = inverse-lt

pub returns-clause-zero : goal.returns-clause-zero
returns-clause-zero c = inverse-zero
