use Rattle.std.proofs.Common.{refl}
use Rattle.krb_msgs.proofs.ReadFields.{reads_on}
use Rattle.krb_msgs.proofs.field_reader.FieldReader.field.Goals as goal

pub returns : goal.returns
returns g c = reads_on _ _ _ _ _ _ c.value.ensures c.field-read.ensures refl
