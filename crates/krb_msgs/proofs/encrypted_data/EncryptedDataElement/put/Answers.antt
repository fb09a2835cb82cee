use Rattle.std.proofs.Common.{refl}
use Rattle.std.proofs.lemmas.Result.{on_ok_weaker}
use Rattle.krb_msgs.specs.EncryptedData.{encrypted_data_fields, encrypted_data_content, encrypted_data}
use Rattle.krb_msgs.proofs.WriteFields.{wrote_done, wrote_field, wrote_optional}
use Rattle.krb_msgs.proofs.WrittenMessages.{written_sequence}
use Rattle.krb_msgs.proofs.encrypted_data.EncryptedDataElement.put.Goals as goal

pub returns : goal.returns
unfolding encrypted_data
returns c = on_ok_weaker c.put_into.result (λ made. written_sequence encrypted_data_content c.args.self.now encrypted_data_fields (c.args.self.now.etype, (c.args.self.now.kvno, (c.args.self.now.cipher, tt))) _ _ _ _ c.in_ok-fields.ensures (wrote_field _ _ _ _ _ _ _ c.field.ensures (wrote_optional 0xa1 _ _ _ _ _ _ _ c.optional.ensures (wrote_field _ _ _ _ _ _ _ c.field-2.ensures (wrote_done _)))) made refl refl) c.put_into.ensures
