use Rattle.std.proofs.Common.{refl}
use Rattle.krb_msgs.proofs.ReadFields.{reads_on}
use Rattle.krb_msgs.proofs.field_reader.FieldReader.name.Goals as goal

pub returns : goal.returns
returns c = reads_on _ _ _ _ _ _ c.value.ensures (rw c.as_str.ensures at c.name_field-read.ensures) refl
