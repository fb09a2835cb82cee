use Rattle.std.proofs.Common.{refl}
use Rattle.std.proofs.lemmas.Result.{IfOk-weaker}
use Rattle.krb_msgs.specs.ApReq.{ap_req_fields, ap_req_content, ap_req_element}
use Rattle.krb_msgs.proofs.WriteFields.{wrote_done, wrote_field}
use Rattle.krb_msgs.proofs.WrittenMessages.{written_message}
use Rattle.krb_msgs.proofs.ap_req.write_ap_req.Goals as goal

pub returns : goal.returns
unfolding ap_req_element
returns c = IfOk-weaker c.into_message.result _ _ (λ o made. written_message 0x6e ap_req_content c.args.v.now ap_req_fields (tt, (tt, (c.args.v.now.ap_options, (c.args.v.now.ticket, (c.args.v.now.authenticator, tt))))) _ _ o c.in_ok-fields.ensures (wrote_field _ _ _ _ _ _ _ c.constant.ensures (wrote_field _ _ _ _ _ _ _ c.constant-2.ensures (wrote_field _ _ _ _ _ _ _ c.flags.ensures (wrote_field _ _ _ _ _ _ _ c.put_ticket.ensures (wrote_field _ _ _ _ _ _ _ c.field.ensures (wrote_done _)))))) made refl refl) c.into_message.ensures
