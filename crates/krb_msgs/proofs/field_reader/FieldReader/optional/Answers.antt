use Rattle.std.proofs.Common.{refl}
use Rattle.krb_msgs.proofs.ReadFields.{reads_on_maybe}
use Rattle.krb_msgs.proofs.field_reader.FieldReader.optional.Goals as goal

pub returns : goal.returns
returns g c = reads_on_maybe _ _ _ _ _ _ _ c.value.ensures c.optional-read.ensures refl
