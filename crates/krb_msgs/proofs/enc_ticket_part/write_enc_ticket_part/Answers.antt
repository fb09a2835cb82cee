use Rattle.std.proofs.Common.{refl}
use Rattle.std.proofs.lemmas.Result.{IfOk-weaker}
use Rattle.krb_msgs.specs.EncTicketPart.{enc_ticket_part_fields, enc_ticket_part_content, enc_ticket_part_element}
use Rattle.krb_msgs.proofs.WriteFields.{wrote_done, wrote_field, wrote_known, wrote_optional}
use Rattle.krb_msgs.proofs.WrittenMessages.{written_message}
use Rattle.krb_msgs.proofs.enc_ticket_part.write_enc_ticket_part.Goals as goal

pub returns : goal.returns
unfolding enc_ticket_part_element
returns c = IfOk-weaker c.into_message.result _ _ (λ o made. written_message 0x63 enc_ticket_part_content c.args.v.now enc_ticket_part_fields (c.args.v.now.flags, (c.args.v.now.key, (c.args.v.now.crealm, (c.args.v.now.cname, (c.args.v.now.transited, (c.args.v.now.authtime, (c.args.v.now.starttime, (c.args.v.now.endtime, (c.args.v.now.renew_till, (c.args.v.now.caddr, (c.args.v.now.authorization_data, tt))))))))))) _ _ o c.in_ok-fields.ensures (wrote_field _ _ _ _ _ _ _ c.flags.ensures (wrote_field _ _ _ _ _ _ _ c.field.ensures (wrote_known _ _ _ _ _ _ _ c.field-2.ensures (wrote_field _ _ _ _ _ _ _ c.name.ensures (wrote_field _ _ _ _ _ _ _ c.field-3.ensures (wrote_field _ _ _ _ _ _ _ c.field-4.ensures (wrote_optional 0xa6 _ _ _ _ _ _ _ c.optional.ensures (wrote_field _ _ _ _ _ _ _ c.field-5.ensures (wrote_optional 0xa8 _ _ _ _ _ _ _ c.optional-2.ensures (wrote_optional 0xa9 _ _ _ _ _ _ _ c.optional-3.ensures (wrote_optional 0xaa _ _ _ _ _ _ _ c.optional-4.ensures (wrote_done _)))))))))))) made refl refl) c.into_message.ensures
