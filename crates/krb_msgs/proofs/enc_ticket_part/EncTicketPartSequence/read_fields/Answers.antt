use Rattle.std.proofs.Common.{refl}
use Rattle.krb_msgs.specs.declared.enc_ticket_part.EncTicketPart.{EncTicketPart}
use Rattle.krb_msgs.specs.EncTicketPart.{enc_ticket_part_fields}
use Rattle.krb_msgs.proofs.ReadFields.{reads_field, reads_known, reads_optional, reads_seen}
use Rattle.krb_msgs.proofs.enc_ticket_part.EncTicketPartSequence.read_fields.Goals as goal

pub returns : goal.returns
returns c = reads_seen _ (λ (p : EncTicketPart). (p.flags, (p.key, (p.crealm, (p.cname, (p.transited, (p.authtime, (p.starttime, (p.endtime, (p.renew_till, (p.caddr, (p.authorization_data, tt)))))))))))) enc_ticket_part_fields (c.flags-flags.result, (c.field-key.result, (c.field-crealm.result, (c.name-cname.result, (c.field-transited.result, (c.field-authtime.result, (c.optional-starttime.result, (c.field-endtime.result, (c.optional-renew_till.result, (c.optional-caddr.result, (c.optional-authorization_data.result, tt))))))))))) _ _ _ (reads_field _ _ _ _ _ _ _ c.flags-flags.ensures (reads_field _ _ _ _ _ _ _ c.field-key.ensures (reads_known _ _ _ _ _ _ _ c.field-crealm.ensures (reads_field _ _ _ _ _ _ _ c.name-cname.ensures (reads_field _ _ _ _ _ _ _ c.field-transited.ensures (reads_field _ _ _ _ _ _ _ c.field-authtime.ensures (reads_optional 0xa6 _ _ _ _ _ _ _ c.optional-starttime.ensures (reads_field _ _ _ _ _ _ _ c.field-endtime.ensures (reads_optional 0xa8 _ _ _ _ _ _ _ c.optional-renew_till.ensures (reads_optional 0xa9 _ _ _ _ _ _ _ c.optional-caddr.ensures (reads_optional 0xaa _ _ _ _ _ _ _ c.optional-authorization_data.ensures c.end.ensures))))))))))) refl
