use Rattle.sec_base.proofs.InARow.{took-told}
use Rattle.gss_client.proofs.Parts.{heard-whole, heard-end, heard-torn, heard-long, heard-many, heard-fault, heard-memory}
use Rattle.gss_client.proofs.exchange.listen.Goals as goal

pub returns-in-Ok-Some-clause-told : goal.returns-in-Ok-Some-clause-told
returns-in-Ok-Some-clause-told g c = λ t. let r = rw c.in-Ok-Some.field-0-is at c.in-Ok-Some.ensures.told in heard-whole r.0 c.in-Ok-Some.octets r.1 r.2 (took-told t r.3)

pub returns-in-Ok-None-clause-told : goal.returns-in-Ok-None-clause-told
returns-in-Ok-None-clause-told g c = λ t. let r = rw c.in-Ok-None.field-0-is at c.in-Ok-None.ensures.told in heard-end (took-told t r.0) (r.1 t)

pub returns-in-Err-LinkFault-clause-told : goal.returns-in-Err-LinkFault-clause-told
returns-in-Err-LinkFault-clause-told g c = λ t. let r = rw c.in-Err-LinkFault.field-0-is at c.in-Err-LinkFault.ensures.told in heard-fault r.0 (took-told t r.2)

pub returns-in-Err-TooLong-clause-told : goal.returns-in-Err-TooLong-clause-told
returns-in-Err-TooLong-clause-told g c = λ t. let r = rw c.in-Err-TooLong.field-0-is at c.in-Err-TooLong.ensures.told in heard-long r.0 r.1 (took-told t r.2)

pub returns-in-Err-TooManyFragments-clause-told : goal.returns-in-Err-TooManyFragments-clause-told
returns-in-Err-TooManyFragments-clause-told g c = λ t. let r = rw c.in-Err-TooManyFragments.field-0-is at c.in-Err-TooManyFragments.ensures.told in heard-many r.0 r.1 (took-told t r.2)

pub returns-in-Err-Torn-clause-told : goal.returns-in-Err-Torn-clause-told
returns-in-Err-Torn-clause-told g c = λ t. let r = rw c.in-Err-Torn.field-0-is at c.in-Err-Torn.ensures.told in heard-torn r.0 r.1 (took-told t r.2) (r.3 t)

pub returns-in-Err-NoMemory-clause-told : goal.returns-in-Err-NoMemory-clause-told
returns-in-Err-NoMemory-clause-told g c = λ t. let r = rw c.in-Err-NoMemory.field-0-is at c.in-Err-NoMemory.ensures.told in heard-memory r.0 (took-told t r.2)
