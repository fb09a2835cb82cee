use Rattle.std.proofs.Common.{refl}
use Rattle.krb_msgs.proofs.ReadFields.{reads_on_maybe}
use Rattle.krb_msgs.proofs.field_reader.FieldReader.optional_micros.Goals as goal

pub returns : goal.returns
returns c = reads_on_maybe _ _ _ _ _ _ _ c.value.ensures c.optional_micros-read.ensures refl
