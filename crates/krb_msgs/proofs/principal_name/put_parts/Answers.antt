use Rattle.std.proofs.Common.{refl}
use Rattle.krb_msgs.proofs.WriteFields.{puts_on}
use Rattle.krb_msgs.proofs.principal_name.put_parts.Goals as goal

pub returns : goal.returns
returns c = puts_on _ _ _ _ _ _ c.note.ensures c.put_parts_field-put.ensures refl
