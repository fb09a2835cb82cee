use Rattle.std.proofs.Common.{refl}
use Rattle.krb_msgs.specs.declared.ap_req.ApReq.{ApReq}
use Rattle.krb_msgs.specs.ApReq.{ap_req_fields}
use Rattle.krb_msgs.proofs.ReadFields.{reads_field, reads_seen}
use Rattle.krb_msgs.proofs.ap_req.ApReqSequence.read_fields.Goals as goal

pub returns : goal.returns
returns c = reads_seen _ (λ (p : ApReq). (tt, (tt, (p.ap_options, (p.ticket, (p.authenticator, tt)))))) ap_req_fields (tt, (tt, (c.flags-ap_options.result, (c.ticket_field-ticket.result, (c.field-authenticator.result, tt))))) _ _ _ (reads_field _ _ _ _ _ _ _ c.constant.ensures (reads_field _ _ _ _ _ _ _ c.constant-2.ensures (reads_field _ _ _ _ _ _ _ c.flags-ap_options.ensures (reads_field _ _ _ _ _ _ _ c.ticket_field-ticket.ensures (reads_field _ _ _ _ _ _ _ c.field-authenticator.ensures c.end.ensures))))) refl
