use Rattle.std.proofs.Common.{refl}
use Rattle.krb_msgs.specs.declared.ticket.Ticket.{Ticket}
use Rattle.krb_msgs.specs.Ticket.{ticket_fields}
use Rattle.krb_msgs.proofs.ReadFields.{reads_field, reads_known, reads_seen}
use Rattle.krb_msgs.proofs.ticket.TicketSequence.read_fields.Goals as goal

pub returns : goal.returns
returns c = reads_seen _ (λ (p : Ticket). (tt, (p.realm, (p.sname, (p.enc_part, tt))))) ticket_fields (tt, (c.field-realm.result, (c.name-sname.result, (c.field-enc_part.result, tt)))) _ _ _ (reads_field _ _ _ _ _ _ _ c.constant.ensures (reads_known _ _ _ _ _ _ _ c.field-realm.ensures (reads_field _ _ _ _ _ _ _ c.name-sname.ensures (reads_field _ _ _ _ _ _ _ c.field-enc_part.ensures c.end.ensures)))) refl
