use Rattle.std.proofs.Common.{refl}
use Rattle.krb_msgs.proofs.WriteFields.{puts_on_maybe}
use Rattle.krb_msgs.proofs.field_writer.FieldWriter.optional.Goals as goal

pub returns : goal.returns
returns g c = puts_on_maybe _ _ _ _ _ _ c.note.ensures c.put_optional-put.ensures refl
