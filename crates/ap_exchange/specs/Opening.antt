-- What is opened of a request, one part after the other; `Exchange` and `Judging` say the same of
-- all parts at once.
use Rattle.std.specs.Prelude.{ℕ, List, Option, Result}
use Rattle.gss_base.specs.Name.{Name}
use Rattle.der_core.specs.Format.{all_of}
use Rattle.krb_derive.specs.declared.key.Key.{Key}
use Rattle.krb_msgs.specs.declared.ap_req.ApReq.{ApReq}
use Rattle.krb_msgs.specs.declared.ticket.Ticket.{Ticket}
use Rattle.krb_msgs.specs.declared.enc_ticket_part.EncTicketPart.{EncTicketPart}
use Rattle.krb_msgs.specs.declared.authenticator.Authenticator.{Authenticator}
use Rattle.krb_msgs.specs.EncTicketPart.{enc_ticket_part}
use Rattle.krb_msgs.specs.Authenticator.{authenticator}
use Rattle.krb_files.specs.declared.keytab.Entry.{Entry}
use Rattle.ap_exchange.specs.declared.refusal.Part.TheVariants as parts
use Rattle.ap_exchange.specs.declared.refusal.ApRefusal.{ApRefusal}
use Rattle.ap_exchange.specs.declared.refusal.ApRefusal.TheVariants as refusals
use Rattle.ap_exchange.specs.declared.judged.Judged.{Judged}
use Rattle.ap_exchange.specs.Steps.{◌>>=◌, der_in}
use Rattle.ap_exchange.specs.Keys.{authenticator_usage, key_in, data_opened}
use Rattle.ap_exchange.specs.Exchange.{requested, ticket_for, service_key, ticket_opened}
use Rattle.ap_exchange.specs.Judging.{claim_judged}

-- what a ticket says, opened with the acceptor's key
unfoldable pub ticket_part : List Entry → Name → Ticket → Result EncTicketPart ApRefusal
ticket_part keytab own granted = do
  service ← service_key keytab own granted
  octets ← ticket_opened service granted
  der_in parts.Ticket (enc_ticket_part.read (all_of octets))

-- what a request's ticket says
unfoldable pub part_opened : List Entry → Name → ApReq → Result EncTicketPart ApRefusal
part_opened keytab own request = do
  granted ← ticket_for own request
  ticket_part keytab own granted

-- what a request's authenticator says, opened with the session key
unfoldable pub said_opened : Key → ApReq → Result Authenticator ApRefusal
said_opened session request = do
  octets ← data_opened refusals.AuthClosed session authenticator_usage request.authenticator
  der_in parts.Authenticator (authenticator.read (all_of octets))

-- what a request is judged as whose ticket says this
unfoldable pub part_judged : Name → ℕ → Option (List ℕ) → ApReq → EncTicketPart
    → Result Judged ApRefusal
part_judged own now bindings request part = do
  session ← key_in part.key
  said ← said_opened session request
  claim_judged own now bindings session part said

-- what the request in a token is judged as
unfoldable pub judged_by_parts : List Entry → Name → ℕ → Option (List ℕ) → List ℕ
    → Result Judged ApRefusal
judged_by_parts keytab own now bindings token = do
  request ← requested token
  part ← part_opened keytab own request
  part_judged own now bindings request part
