use Rattle.std.proofs.Common.{refl}
use Rattle.std.proofs.lemmas.Result.{IfOk-weaker}
use Rattle.krb_msgs.specs.Ticket.{ticket_fields, ticket_content, ticket_element}
use Rattle.krb_msgs.proofs.WriteFields.{wrote_done, wrote_field, wrote_known}
use Rattle.krb_msgs.proofs.WrittenMessages.{written_message}
use Rattle.krb_msgs.proofs.ticket.write_ticket.Goals as goal

pub returns : goal.returns
unfolding ticket_element
returns c = IfOk-weaker c.into_message.result _ _ (λ o made. written_message 0x61 ticket_content c.args.v.now ticket_fields (tt, (c.args.v.now.realm, (c.args.v.now.sname, (c.args.v.now.enc_part, tt)))) _ _ o c.in_ok-fields.ensures (wrote_field _ _ _ _ _ _ _ c.constant.ensures (wrote_known _ _ _ _ _ _ _ c.field.ensures (wrote_field _ _ _ _ _ _ _ c.name.ensures (wrote_field _ _ _ _ _ _ _ c.field-2.ensures (wrote_done _))))) made refl refl) c.into_message.ensures
