-- A ticket as a key distribution centre makes it, RFC 4120 section 5.3.
use Rattle.std.specs.Prelude.{ℕ, List, Some}
use Rattle.gss_base.specs.Name.{Name}
use Rattle.krb_derive.specs.declared.key.Key.{Key}
use Rattle.krb_msgs.specs.declared.enc_ticket_part.EncTicketPart.{EncTicketPart}
use Rattle.krb_msgs.specs.declared.ticket.Ticket.{Ticket}
use Rattle.krb_msgs.specs.EncTicketPart.{enc_ticket_part}
use Rattle.ap_exchange.specs.Keys.{ticket_usage, sealed_data}
use Rattle.ap_exchange.specs.Request.{name_value}

-- the ticket for a server whose key has this number: what it says, under the server's key
abbrev pub sealed_ticket : Key → ℕ → Name → EncTicketPart → List ℕ → Ticket
sealed_ticket service kvno server part confounder = record {
  realm = server.realm;
  sname = name_value server;
  enc_part = sealed_data service (Some kvno) ticket_usage confounder (enc_ticket_part.spell part);
}
