-- What an acceptor opens of a request, RFC 4120 section 3.2.3: each step is judged over what the
-- ones before gave.
use Rattle.std.specs.Prelude.{ℕ, ◌-◌, ◌/◌, ◌%◌, ◌^◌, ◌==◌, Bool, List, [], ◌∷◌, length}
use Rattle.std.specs.Prelude.{option_and_then, Result, Ok, Err}
use Rattle.gss_base.specs.Name.{Name}
use Rattle.gss_base.specs.SameName.{same_name}
use Rattle.der_core.specs.Format.{all_of}
use Rattle.krb_derive.specs.declared.key.Key.{Key}
use Rattle.krb_derive.specs.Key.{etype_of}
use Rattle.krb_derive.specs.Sealing.{opened}
use Rattle.krb_derive.specs.Making.{Making, sealed_making}
use Rattle.krb_msgs.specs.declared.principal_name.PrincipalName.{PrincipalName}
use Rattle.krb_msgs.specs.declared.ap_req.ApReq.{ApReq}
use Rattle.krb_msgs.specs.declared.ticket.Ticket.{Ticket}
use Rattle.krb_msgs.specs.declared.enc_ticket_part.EncTicketPart.{EncTicketPart}
use Rattle.krb_msgs.specs.declared.authenticator.Authenticator.{Authenticator}
use Rattle.krb_msgs.specs.ApReq.{ap_req}
use Rattle.krb_msgs.specs.Ticket.{ticket}
use Rattle.krb_msgs.specs.EncTicketPart.{enc_ticket_part}
use Rattle.krb_msgs.specs.Authenticator.{authenticator}
use Rattle.krb_files.specs.declared.keytab.Entry.{Entry}
use Rattle.krb_files.specs.Keytab.{found}
use Rattle.ap_exchange.specs.declared.refusal.Part.TheVariants as parts
use Rattle.ap_exchange.specs.declared.refusal.ApRefusal.{ApRefusal}
use Rattle.ap_exchange.specs.declared.refusal.ApRefusal.TheVariants as refusals
use Rattle.ap_exchange.specs.Steps.{◌>>=◌, der_in, der_behind, or_refuse, due}
use Rattle.ap_exchange.specs.Tokens.{inner_of, ap_req_id, is_kind, message_of}
use Rattle.ap_exchange.specs.Keys.{ticket_usage, authenticator_usage, key_in, opened_or}
use Rattle.ap_exchange.specs.Keys.{data_opened}

-- mutual-required, bit 2 of the ap-options, counted from the most significant
abbrev pub is_mutual : ℕ → Bool
is_mutual options = options / 2 ^ 29 % 2 == 1

-- the request in a token: its frame, its kind, the message (whose places count from the token's
-- first octet), mutual-required
unfoldable pub requested : List ℕ → Result ApReq ApRefusal
requested token = do
  inner ← inner_of token
  kind ← due refusals.Kind (is_kind ap_req_id inner)
  request ← der_behind parts.Token (length token - length (message_of inner))
      (ap_req.read (all_of (message_of inner)))
  asked ← due refusals.NotMutual (is_mutual request.ap_options)
  Ok request

-- the name of a realm and a name in it; the type isn't part of it
abbrev pub name_in_realm : List ℕ → PrincipalName → Name
name_in_realm realm name = record { realm = realm; parts = name.name_string }

-- the request's ticket, which is one since the request was read; it is of the acceptor's own name
unfoldable pub ticket_for : Name → ApReq → Result Ticket ApRefusal
ticket_for own request = do
  granted ← der_in parts.Ticket (ticket.read (all_of request.ticket))
  named ← due refusals.TicketNames (same_name (name_in_realm granted.realm granted.sname) own)
  Ok granted

-- the acceptor's key of the ticket's number and type
abbrev pub service_key : List Entry → Name → Ticket → Result Key ApRefusal
service_key keytab own granted =
    or_refuse refusals.NoKey (option_and_then
    (λ etype. found keytab own granted.enc_part.kvno etype) (etype_of granted.enc_part.etype))

-- what the ticket opens to
abbrev pub ticket_opened : Key → Ticket → Result (List ℕ) ApRefusal
ticket_opened service granted =
    opened_or refusals.TicketClosed (opened service ticket_usage granted.enc_part.cipher)

-- a request with all that opened of it
pub record Exchange : Type 0 where
  pub request : ApReq
  pub granted : Ticket
  -- the acceptor's key, which is one of its keytab
  pub service : Key
  -- what the ticket opened to, and what that says
  pub ticket_octets : List ℕ
  pub part : EncTicketPart
  pub session : Key
  -- what the authenticator opened to, and what that says
  pub octets : List ℕ
  pub said : Authenticator

-- a token's request with all that opened of it, by keytab and own name, or the first refusal
unfoldable pub exchange_of : List Entry → Name → List ℕ → Result Exchange ApRefusal
exchange_of keytab own token = do
  request ← requested token
  granted ← ticket_for own request
  service ← service_key keytab own granted
  ticket_octets ← ticket_opened service granted
  part ← der_in parts.Ticket (enc_ticket_part.read (all_of ticket_octets))
  session ← key_in part.key
  octets ← data_opened refusals.AuthClosed session authenticator_usage request.authenticator
  said ← der_in parts.Authenticator (authenticator.read (all_of octets))
  Ok (record {
    request = request;
    granted = granted;
    service = service;
    ticket_octets =
        ticket_octets;
    part = part;
    session = session;
    octets = octets;
    said = said;
  })

-- what an acceptor finds verified in a request: the authenticator, under the ticket's session key
abbrev pub verified_in : Result Exchange ApRefusal → List Making
verified_in (Ok x) = sealed_making x.session authenticator_usage x.octets ∷ []
verified_in (Err refusal) = []

-- what an acceptor with this keytab and name finds verified in a token
abbrev pub judge_found : List Entry → Name → List ℕ → List Making
judge_found keytab own token = verified_in (exchange_of keytab own token)
