use Rattle.std.proofs.Common.{refl}
use Rattle.krb_msgs.proofs.WriteFields.{puts_on}
use Rattle.krb_msgs.proofs.field_writer.FieldWriter.name.Goals as goal

pub returns : goal.returns
returns c = puts_on _ _ _ _ _ _ c.note.ensures c.put_name_field-put.ensures refl
