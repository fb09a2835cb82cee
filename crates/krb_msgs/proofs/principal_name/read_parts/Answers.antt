use Rattle.std.proofs.Common.{refl}
use Rattle.krb_msgs.proofs.ReadFields.{reads_on}
use Rattle.krb_msgs.proofs.principal_name.read_parts.Goals as goal

pub returns : goal.returns
returns c = reads_on _ _ _ _ _ _ c.value.ensures c.parts_field-read.ensures refl
