use Rattle.krb_msgs.specs.Ticket.{ticket_element}
use Rattle.krb_msgs.proofs.ticket.ticket_from.Goals as goal

pub returns : goal.returns
unfolding ticket_element
returns c = c.read_message.ensures
