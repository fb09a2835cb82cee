-- Credential caches, version 4: `05 04`, a header behind its length in 16 bits, the owner, then
-- credentials up to the file's end.
use Rattle.std.specs.Prelude.{ℕ, zero, suc, ◌==◌, nat_le, if◌then◌else◌, List, [], ◌∷◌, length}
use Rattle.std.specs.Prelude.{Option, Some, None, Result, Ok}
use Rattle.gss_base.specs.Name.{Name}
use Rattle.gss_base.specs.SameName.{same_name}
use Rattle.krb_derive.specs.declared.key.Key.{Key}
use Rattle.krb_files.specs.declared.refusal.FileRefusal.{FileRefusal}
use Rattle.krb_files.specs.declared.pieces.Next.{Next}
use Rattle.krb_files.specs.declared.pieces.Next.TheVariants.{End, Other, Item}
use Rattle.krb_files.specs.Fields.{Input, place, ◌>>=◌, number_at, counted_at, passed_at, magic_at}
use Rattle.krb_files.specs.Granted.{Granted, Kept, Cache}
use Rattle.krb_files.specs.Names.{principal_at}
use Rattle.krb_files.specs.Keys.{key_at}
use Rattle.krb_files.specs.Pieces.{all_of}

-- a principal: the name's type, then its count of components, the realm and the components
unfoldable pub name_at : Input → Result (Name × Input) FileRefusal
name_at i = do
  kind ← number_at 4 i
  principal_at 4 (place i) kind.1

-- an address, or an entry of authorization data: a type of 16 bits, then octets
unfoldable pub typed_at : Input → Result (Unit {0} × Input) FileRefusal
typed_at i = do
  kind ← number_at 2 i
  octets ← counted_at 4 kind.1
  Ok (tt, octets.1)

-- so many addresses, or entries of authorization data
unfoldable pub times_typed_at : ℕ → Input → Result (Unit {0} × Input) FileRefusal
times_typed_at zero i = Ok (tt, i)
times_typed_at (suc n) i = do
  one ← typed_at i
  times_typed_at n one.1

-- all addresses, or all authorization data, behind their count
unfoldable pub list_at : Input → Result (Unit {0} × Input) FileRefusal
list_at i = do
  count ← number_at 4 i
  times_typed_at count.0 count.1

-- what stands behind the times and the flags: addresses, authorization data, and two tickets, of
-- which the first is answered
unfoldable pub ticket_at : Input → Result (List ℕ × Input) FileRefusal
ticket_at i = do
  addresses ← list_at i
  authorization ← list_at addresses.1
  ticket ← counted_at 4 authorization.1
  second ← counted_at 4 ticket.1
  Ok (ticket.0, second.1)

-- the third of four times of 32 bits is the ticket's end; one octet and 32 flags stand behind them
unfoldable pub end_at : Input → Result (ℕ × Input) FileRefusal
end_at i = do
  before ← passed_at 8 i
  ends ← number_at 4 before.1
  behind ← passed_at 9 ends.1
  Ok (ends.0, behind.1)

-- a credential is kept where its key's type is known and its ticket within the limit
abbrev pub kept_of : Name → Name → Option Key → ℕ → List ℕ → Next Kept
kept_of client server None ends ticket = Other
kept_of client server (Some session) ends ticket =
    if nat_le (length ticket) 60000 then Item (record {
      granted = record
          { client = client; server = server; session = session; ticket = ticket };
      ends = ends;
    })
    else Other

-- a credential: the client, the server, the key, its end, and its ticket
unfoldable pub credential_at : Input → Result (Next Kept × Input) FileRefusal
credential_at i = do
  client ← name_at i
  server ← name_at client.1
  key ← key_at 4 server.1
  ends ← end_at key.1
  ticket ← ticket_at ends.1
  Ok (kept_of client.0 server.0 key.0 ends.0 ticket.0, ticket.1)

-- the next credential, or the end of the file
unfoldable pub next_at : Input → Result (Next Kept × Input) FileRefusal
next_at i = if length i.octets == 0 then Ok (End, i) else credential_at i

-- the owner and the credentials of a cache
unfoldable pub ccache_of : List ℕ → Result Cache FileRefusal
ccache_of octets = do
  i ← magic_at 4 octets
  header ← counted_at 2 i
  owner ← name_at header.1
  credentials ← all_of next_at owner.1
  Ok (record { owner = owner.0; credentials = credentials })

-- a later one only if it ends later
abbrev pub later_of : Option Kept → Kept → Kept
later_of None next = next
later_of (Some found) next = if nat_le next.ends found.ends then found else next

-- what was found before, or a credential for this server that ends later
abbrev pub latest_from : Name → Option Kept → List Kept → Option Kept
latest_from server found [] = found
latest_from server found (next ∷ others) =
    latest_from server (if same_name next.granted.server server then Some (later_of found next)
    else found) others

-- the credential
abbrev pub granted_of : Option Kept → Option Granted
granted_of None = None
granted_of (Some kept) = Some kept.granted

-- the credential for this server that ends last, the first of those that end alike: where a ticket
-- was renewed, the new one stands behind the one that ended
abbrev pub granted_for : Name → List Kept → Option Granted
granted_for server credentials = granted_of (latest_from server None credentials)
