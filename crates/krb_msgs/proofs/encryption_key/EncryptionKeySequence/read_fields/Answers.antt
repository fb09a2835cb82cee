use Rattle.std.proofs.Common.{rules}
use Rattle.krb_msgs.specs.declared.encryption_key.EncryptionKey.{EncryptionKey}
use Rattle.krb_msgs.specs.EncryptionKey.{encryption_key_fields}
use Rattle.krb_msgs.proofs.ReadFields.{reads_field, reads_seen}
use Rattle.krb_msgs.proofs.encryption_key.EncryptionKeySequence.read_fields.Goals as goal

pub returns : goal.returns
returns c = reads_seen _ (λ (p : EncryptionKey). (p.keytype, (p.keyvalue, tt))) encryption_key_fields (c.field-keytype.result, (c.field-keyvalue.result, tt)) _ _ _ (reads_field _ _ _ _ _ _ _ c.field-keytype.ensures (reads_field _ _ _ _ _ _ _ c.field-keyvalue.ensures c.end.ensures)) (search rules)
