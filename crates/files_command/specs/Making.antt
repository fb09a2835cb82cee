-- The file that an order asks for, made at a moment with 48 drawn octets: 0 to 31 a session key, of
-- type 17 the first 16 of them, and 32 to 47 a ticket's confounder.
use Rattle.std.specs.Prelude.{ℕ, ◌+◌, ◌*◌, ◌/◌, min, ◌&&◌, nat_le, pos, List, [], length, None}
use Rattle.std.specs.Prelude.{Result, Ok, Err, if◌then◌else◌}
use Rattle.gss_base.specs.Name.{Name}
use Rattle.krb_derive.specs.declared.key.Key.{Key}
use Rattle.krb_derive.specs.Key.{type_of_key}
use Rattle.krb_msgs.specs.declared.enc_ticket_part.EncTicketPart.{EncTicketPart}
use Rattle.krb_msgs.specs.EncTicketPart.{enc_ticket_part}
use Rattle.krb_msgs.specs.Ticket.{ticket}
use Rattle.krb_files.specs.Granted.{Granted}
use Rattle.ap_exchange.specs.Draws.{drawn_subkey, drawn_confounder}
use Rattle.ap_exchange.specs.Keys.{key_value, ticket_usage, SealedOpens}
use Rattle.ap_exchange.specs.Request.{name_value}
use Rattle.ap_exchange.specs.SealedTicket.{sealed_ticket}
use Rattle.scram_mech.specs.Verifiers.{made_line}
use Rattle.files_command.specs.declared.refusal.NoFile.{NoFile}
use Rattle.files_command.specs.declared.refusal.NoFile.TheVariants.{Usage}
use Rattle.files_command.specs.declared.keytab_file.ServiceKey.{ServiceKey}
use Rattle.files_command.specs.declared.ccache_file.Times.{Times}
use Rattle.files_command.specs.declared.words.Order.{Order}
use Rattle.files_command.specs.declared.words.Order.TheVariants.{Keytab, Ccache, Verifier}
use Rattle.files_command.specs.Words.{◌>>=◌, unless_refused, order_of}
use Rattle.files_command.specs.KeytabFile.{keytab_file}
use Rattle.files_command.specs.CcacheFile.{ccache_file}

-- the moment of a second since 1970, at most the last of the year 9999
abbrev pub whole_second : ℕ → ℕ
whole_second secs = min secs 253402300799 * 1000000

-- what a ticket seals: a client known at one moment with a session key, up to another moment,
-- without flags
abbrev pub ticket_part : Name → Key → ℕ → ℕ → EncTicketPart
ticket_part client session authtime endtime = record {
  flags = 0;
  key = key_value session;
  crealm = client.realm;
  cname = name_value client;
  transited = record { tr_type = pos 1; contents = [] };
  authtime = authtime;
  starttime = None;
  endtime = endtime;
  renew_till = None;
  caddr = None;
  authorization_data = None;
}

-- the ticket of a session key for a server, sealed under the server's key
unfoldable pub ticket_for : Name → ServiceKey → Key → ℕ → ℕ → List ℕ → List ℕ
ticket_for client service session since until confounder =
    ticket.spell (sealed_ticket service.key service.kvno service.server
    (ticket_part client session (whole_second since) (whole_second until)) confounder)

-- what the ticket of a session key seals opens again under the server's key
abbrev pub TicketOpens : Name → ServiceKey → Key → ℕ → ℕ → List ℕ → Type 0
TicketOpens client service session since until confounder =
    SealedOpens service.key ticket_usage confounder (enc_ticket_part.spell
    (ticket_part client session (whole_second since) (whole_second until)))

-- a cache holds tickets of at most 60,000 octets
abbrev pub within : Granted → Result Granted NoFile
within granted = if nat_le (length granted.ticket) 60000 then Ok granted else Err Usage

-- the credential with its ticket; it serves from one second to another, counted since 1970
abbrev pub granted_with : Name → ServiceKey → Key → ℕ → ℕ → List ℕ → Granted
granted_with client service session since until confounder = record {
  client = client;
  server = service.server;
  session = session;
  ticket = ticket_for client service session since until confounder;
}

-- the credential of a new session key, of the server's type
unfoldable pub credential_for : Name → ServiceKey → ℕ → ℕ → List ℕ → Result Granted NoFile
credential_for client service since until draws =
    within (granted_with client service (drawn_subkey (type_of_key service.key) draws) since until
    (drawn_confounder draws))

-- times in a cache have 32 bits
abbrev pub times_of : ℕ → ℕ → Times
times_of since until = record { authtime = min since 4294967295; endtime = min until 4294967295 }

-- a cache with a ticket that serves for so many hours from this second on
unfoldable pub ccache_from : Name → ServiceKey → ℕ → ℕ → List ℕ → Result (List ℕ) NoFile
ccache_from client service hours since draws = do
  granted ← credential_for client service since (since + hours * 3600) draws
  Ok (ccache_file (times_of since (since + hours * 3600)) granted)

-- a salt has 1 to 64 octets
unfoldable pub verifier_for : List ℕ → List ℕ → List ℕ → ℕ → Result (List ℕ) NoFile
verifier_for user password salt rounds =
    if nat_le 1 (length salt) && nat_le (length salt) 64
    then unless_refused (made_line user password salt rounds) else Err Usage

-- the file that an order asks for, by a moment in microseconds and 48 drawn octets
abbrev pub file_for : ℕ → List ℕ → Order → Result (List ℕ) NoFile
file_for now draws (Keytab service) = Ok (keytab_file service)
file_for now draws (Ccache client service hours) =
    ccache_from client service hours (now / 1000000) draws
file_for now draws (Verifier user password salt rounds) = verifier_for user password salt rounds

-- the file of a command line
unfoldable pub file_of : List (List ℕ) → ℕ → List ℕ → Result (List ℕ) NoFile
file_of words now draws = do
  order ← order_of words
  file_for now draws order
