use Rattle.std.proofs.Common.{rules}
use Rattle.krb_msgs.specs.declared.encrypted_data.EncryptedData.{EncryptedData}
use Rattle.krb_msgs.specs.EncryptedData.{encrypted_data_fields}
use Rattle.krb_msgs.proofs.ReadFields.{reads_field, reads_optional, reads_seen}
use Rattle.krb_msgs.proofs.encrypted_data.EncryptedDataSequence.read_fields.Goals as goal

pub returns : goal.returns
returns c = reads_seen _ (λ (p : EncryptedData). (p.etype, (p.kvno, (p.cipher, tt)))) encrypted_data_fields (c.field-etype.result, (c.optional-kvno.result, (c.field-cipher.result, tt))) _ _ _ (reads_field _ _ _ _ _ _ _ c.field-etype.ensures (reads_optional 0xa1 _ _ _ _ _ _ _ c.optional-kvno.ensures (reads_field _ _ _ _ _ _ _ c.field-cipher.ensures c.end.ensures))) (search rules)
