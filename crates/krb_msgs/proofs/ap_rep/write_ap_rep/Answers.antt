use Rattle.std.proofs.Common.{refl}
use Rattle.std.proofs.lemmas.Result.{IfOk-weaker}
use Rattle.krb_msgs.specs.ApRep.{ap_rep_fields, ap_rep_content, ap_rep_element}
use Rattle.krb_msgs.proofs.WriteFields.{wrote_done, wrote_field}
use Rattle.krb_msgs.proofs.WrittenMessages.{written_message}
use Rattle.krb_msgs.proofs.ap_rep.write_ap_rep.Goals as goal

pub returns : goal.returns
unfolding ap_rep_element
returns c = IfOk-weaker c.into_message.result _ _ (λ o made. written_message 0x6f ap_rep_content c.args.v.now ap_rep_fields (tt, (tt, (c.args.v.now.enc_part, tt))) _ _ o c.in_ok-fields.ensures (wrote_field _ _ _ _ _ _ _ c.constant.ensures (wrote_field _ _ _ _ _ _ _ c.constant-2.ensures (wrote_field _ _ _ _ _ _ _ c.field.ensures (wrote_done _)))) made refl refl) c.into_message.ensures
