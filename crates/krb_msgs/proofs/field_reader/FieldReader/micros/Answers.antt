use Rattle.std.proofs.Common.{refl}
use Rattle.krb_msgs.proofs.ReadFields.{reads_on}
use Rattle.krb_msgs.proofs.field_reader.FieldReader.micros.Goals as goal

pub returns : goal.returns
returns c = reads_on _ _ _ _ _ _ c.value.ensures c.micros_field-read.ensures refl
