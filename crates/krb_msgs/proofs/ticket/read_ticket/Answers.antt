use Rattle.der_core.proofs.PutFields.{is_found, is_read_again}
use Rattle.krb_msgs.specs.Ticket.{ticket_element}
use Rattle.krb_msgs.proofs.MessageLaws.{ticket_law}
use Rattle.krb_msgs.proofs.ticket.read_ticket.Goals as goal

pub returns-clause-found : goal.returns-clause-found
unfolding ticket_element
returns-clause-found c = is_found _ _ ticket_law c.args.bytes.now c.read_whole.result (record { each = λ k. (c.type_inv.bytes k).fits }) c.read_whole.ensures

pub returns-clause-only : goal.returns-clause-only
unfolding ticket_element
returns-clause-only c = λ v whole. is_read_again _ _ ticket_law c.args.bytes.now c.read_whole.result v whole c.read_whole.ensures
