use Rattle.std.proofs.Common.{rules}
use Rattle.krb_msgs.specs.declared.principal_name.PrincipalName.{PrincipalName}
use Rattle.krb_msgs.specs.PrincipalName.{principal_name_fields}
use Rattle.krb_msgs.proofs.ReadFields.{reads_field, reads_seen}
use Rattle.krb_msgs.proofs.principal_name.PrincipalNameSequence.read_fields.Goals as goal

pub returns : goal.returns
returns c = reads_seen _ (λ (p : PrincipalName). (p.name_type, (p.name_string, tt))) principal_name_fields (c.field-name_type.result, (c.read_parts-name_string.result, tt)) _ _ _ (reads_field _ _ _ _ _ _ _ c.field-name_type.ensures (reads_field _ _ _ _ _ _ _ c.read_parts-name_string.ensures c.end.ensures)) (search rules)
