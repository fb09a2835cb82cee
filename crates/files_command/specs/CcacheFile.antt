-- Credential caches as they are written, version 4: `05 04`, an empty header, the client, then one
-- credential.
use Rattle.std.specs.Prelude.{ℕ, ◌≤◌, List, [], ◌∷◌, ◌++◌, length}
use Rattle.gss_base.specs.Name.{Name}
use Rattle.krb_files.specs.Granted.{Granted, Cache}
use Rattle.files_command.specs.declared.ccache_file.Times.{Times}
use Rattle.files_command.specs.Fields.{number, counted, principal, key_field, IsTextName}
use Rattle.files_command.specs.Fields.{IsSizedKey}

-- the cache that a reader finds
abbrev pub cache_of : Times → Granted → Cache
cache_of times granted = record {
  owner = granted.client;
  credentials =
      record { granted = granted; ends = times.endtime } ∷ [];
}

-- a principal behind the type 1 of its name
unfoldable pub cache_name : Name → List ℕ
cache_name name = number 4 1 ++ principal 4 name

-- when the client was known, from when and until when the ticket serves, no renewal; no key of a
-- user; no flags
unfoldable pub times_octets : Times → List ℕ
times_octets times = number 4 times.authtime ++ (number 4 times.authtime
    ++ (number 4 times.endtime ++ (number 4 0 ++ (number 1 0 ++ number 4 0))))

-- what stands behind the key: the times, no addresses, no authorization data, the ticket, no second
-- ticket
unfoldable pub ticket_octets : Times → List ℕ → List ℕ
ticket_octets times ticket =
    times_octets times ++ (number 4 0 ++ (number 4 0 ++ (counted 4 ticket ++ counted 4 [])))

-- a credential: the client, the server, the session key, and what stands behind it
unfoldable pub credential_octets : Times → Granted → List ℕ
credential_octets times granted =
    cache_name granted.client ++ (cache_name granted.server
    ++ (key_field 4 granted.session ++ ticket_octets times granted.ticket))

-- a cache that has this credential alone, and its client as owner
unfoldable pub ccache_file : Times → Granted → List ℕ
ccache_file times granted =
    5 ∷ 4 ∷ (counted 2 [] ++ (cache_name granted.client ++ credential_octets times granted))

-- what is true of each credential: its names are texts, its key and its ticket have a length of
-- theirs
pub record IsWritable (granted : Granted) : Type 0 where
  pub client : IsTextName granted.client
  pub server : IsTextName granted.server
  pub session : IsSizedKey granted.session
  pub ticket : length granted.ticket ≤ 60000
