use Rattle.std.proofs.Common.{refl}
use Rattle.krb_msgs.proofs.WriteFields.{puts_on_maybe}
use Rattle.krb_msgs.proofs.field_writer.FieldWriter.optional_micros.Goals as goal

pub returns : goal.returns
returns c = puts_on_maybe _ _ _ _ _ _ c.note.ensures c.put_optional_micros-put.ensures refl
