use Rattle.std.proofs.Common.{refl}
use Rattle.std.proofs.lemmas.Result.{on_ok_weaker}
use Rattle.krb_msgs.specs.PrincipalName.{principal_name_fields, principal_name_content, principal_name}
use Rattle.krb_msgs.proofs.WriteFields.{wrote_done, wrote_field}
use Rattle.krb_msgs.proofs.WrittenMessages.{written_sequence}
use Rattle.krb_msgs.proofs.principal_name.put_principal_name.Goals as goal

pub returns : goal.returns
unfolding principal_name
returns c = on_ok_weaker c.put_into.result (λ made. written_sequence principal_name_content c.args.name.now principal_name_fields (c.args.name.now.name_type, (c.args.name.now.name_string, tt)) _ _ _ _ c.in_ok-fields.ensures (wrote_field _ _ _ _ _ _ _ c.field.ensures (wrote_field _ _ _ _ _ _ _ c.put_parts.ensures (wrote_done _))) made refl refl) c.put_into.ensures
