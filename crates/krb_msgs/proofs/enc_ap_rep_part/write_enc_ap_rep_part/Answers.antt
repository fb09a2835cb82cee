use Rattle.std.proofs.Common.{refl}
use Rattle.std.proofs.lemmas.Result.{IfOk-weaker}
use Rattle.krb_msgs.specs.EncApRepPart.{enc_ap_rep_part_fields, enc_ap_rep_part_content, enc_ap_rep_part_element}
use Rattle.krb_msgs.proofs.WriteFields.{wrote_done, wrote_field, wrote_optional}
use Rattle.krb_msgs.proofs.WrittenMessages.{written_message}
use Rattle.krb_msgs.proofs.enc_ap_rep_part.write_enc_ap_rep_part.Goals as goal

pub returns : goal.returns
unfolding enc_ap_rep_part_element
returns c = IfOk-weaker c.into_message.result _ _ (λ o made. written_message 0x7b enc_ap_rep_part_content c.args.v.now enc_ap_rep_part_fields (c.args.v.now.ctime, (c.args.v.now.cusec, (c.args.v.now.subkey, (c.args.v.now.seq_number, tt)))) _ _ o c.in_ok-fields.ensures (wrote_field _ _ _ _ _ _ _ c.field.ensures (wrote_field _ _ _ _ _ _ _ c.micros.ensures (wrote_optional 0xa2 _ _ _ _ _ _ _ c.optional.ensures (wrote_optional 0xa3 _ _ _ _ _ _ _ c.optional-2.ensures (wrote_done _))))) made refl refl) c.into_message.ensures
