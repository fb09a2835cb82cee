use Rattle.std.proofs.Common.{refl}
use Rattle.krb_msgs.proofs.ReadFields.{reads_done}
use Rattle.krb_msgs.proofs.field_reader.FieldReader.end.Goals as goal

pub returns : goal.returns
returns c = reads_done _ _ _ _ _ c.value.ensures c.end-read.ensures refl
