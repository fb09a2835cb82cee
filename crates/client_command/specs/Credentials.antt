-- The files of a run, and the credentials of its mechanisms.
use Rattle.std.specs.Prelude.{◌≡◌, ◌≢◌, ℕ, Bool, true, false, nat_eq, List, [], ◌∷◌, ◌++◌, take}
use Rattle.std.specs.Prelude.{Option, Some, None, Result, Ok, Err, if◌then◌else◌}
use Rattle.std.specs.Str.{is_utf8}
use Rattle.std.specs.Str.Lossy.{utf8_valid_len}
use Rattle.gss_base.specs.Name.{Name}
use Rattle.gss_base.specs.declared.mech.KerberosName.{KerberosName}
use Rattle.gss_base.specs.declared.mech.MechName.{MechName}
use Rattle.gss_base.specs.declared.mech.MechName.TheVariants as names
use Rattle.krb_files.specs.Ccache.{ccache_of, granted_for}
use Rattle.krb_files.specs.Granted.{Granted, Cache}
use Rattle.krb_files.specs.declared.refusal.FileRefusal.{FileRefusal}
use Rattle.sec_base.specs.declared.shelf.NamedFile.{NamedFile}
use Rattle.spnego_core.specs.declared.setup.MechCred.{MechCred}
use Rattle.spnego_core.specs.declared.setup.MechCred.TheVariants as creds
use Rattle.cli_base.specs.Files.{file_in, stop_by}
use Rattle.cli_base.specs.declared.files.FileStop.{FileStop}
use Rattle.cli_base.specs.declared.files.FileStop.TheVariants as stops
use Rattle.client_options.specs.declared.ending.RunEnd.{RunEnd}
use Rattle.client_options.specs.declared.ending.RunEnd.TheVariants.{Usage, CannotLoad, Bad}
use Rattle.client_options.specs.declared.ending.RunEnd.TheVariants.{NoCredential, NoMemory}
use Rattle.client_options.specs.declared.ending.RunEnd.TheVariants.{LinkFault, PeerEnded, Refused}
use Rattle.client_options.specs.declared.ending.RunEnd.TheVariants.{Negotiation, BadReply, Foreign}
use Rattle.client_options.specs.declared.ending.RunEnd.TheVariants.{Spent, Finished}
use Rattle.client_options.specs.declared.ending.WordFile.{WordFile}
use Rattle.client_options.specs.declared.ending.WordFile.TheVariants.{Ccache, Password}
use Rattle.client_options.specs.declared.words.Sources.{Sources}

-- the rest of a reading, unless the run ends before
infixl 10 ◌>>=◌
-- the rest takes what was read
abbrev pub ◌>>=◌ : {A B : Type 0} → Result A RunEnd → (A → Result B RunEnd) → Result B RunEnd
(Ok x) >>= next = next x
(Err e) >>= next = Err e

-- how the run ends where this file can't be used
abbrev pub end_by : WordFile → FileStop → RunEnd
end_by file stops.CannotLoad = CannotLoad file
end_by file (stops.Bad at) = Bad file at
end_by file stops.NoMemory = NoMemory

-- ---- the credential cache, where the words name one

-- the cache as its file was read, or the run's end if the file is bad
abbrev pub cache_by : Result Cache FileRefusal → Result Cache RunEnd
cache_by (Ok cache) = Ok cache
cache_by (Err refusal) = Err (end_by Ccache (stop_by refusal))

-- the same by how the cache's file was loaded
abbrev pub cache_in : Result (List ℕ) FileStop → Result Cache RunEnd
cache_in (Ok octets) = cache_by (ccache_of octets)
cache_in (Err stop) = Err (end_by Ccache stop)

-- nothing is read where no file is named
abbrev pub if_named : {A : Type 0} → (List ℕ → Result A RunEnd) → Option (List ℕ)
    → Result (Option A) RunEnd
if_named read None = Ok None
if_named read (Some name) = read name >>= λ what. Ok (Some what)

-- the cache by the shelf's files and the file's name, where the words name one
abbrev pub cache_from : List NamedFile → Option (List ℕ) → Result (Option Cache) RunEnd
cache_from files = if_named (λ name. cache_in (file_in files name))

-- ---- the password, where the words name its file

-- the octets less one line feed at their end
abbrev pub less_feed : List ℕ → List ℕ
less_feed [] = []
less_feed (octet ∷ []) = if nat_eq octet 10 then [] else octet ∷ []
less_feed (octet ∷ next ∷ octets) = octet ∷ less_feed (next ∷ octets)

-- a file that isn't UTF-8 is bad behind its longest front that is
abbrev pub password_by : List ℕ → Result (List ℕ) RunEnd
password_by octets =
    if is_utf8 octets then Ok (less_feed octets) else Err (Bad Password (utf8_valid_len octets))

-- the same by how the password's file was loaded
abbrev pub password_in : Result (List ℕ) FileStop → Result (List ℕ) RunEnd
password_in (Ok octets) = password_by octets
password_in (Err stop) = Err (end_by Password stop)

-- the password by the shelf's files and the file's name, where the words name one
abbrev pub password_from : List NamedFile → Option (List ℕ) → Result (Option (List ℕ)) RunEnd
password_from files = if_named (λ name. password_in (file_in files name))

-- ---- credentials

-- Kerberos's credential under this name, without which the run ends
abbrev pub or_none : KerberosName → Option Granted → Result MechCred RunEnd
or_none name None = Err NoCredential
or_none name (Some granted) = Ok (creds.Kerberos name granted)

-- Kerberos: the credential for the server in the cache that ends last, whichever name the list has
abbrev pub ticket_for : KerberosName → Option Cache → Option Name → Result MechCred RunEnd
ticket_for name (Some cache) (Some server) = or_none name (granted_for server cache.credentials)
ticket_for name (Some cache) None = Err NoCredential
ticket_for name None server = Err NoCredential

-- SCRAM: the user and the password
abbrev pub login_of : Option (List ℕ) → Option (List ℕ) → Result MechCred RunEnd
login_of (Some user) (Some password) = Ok (creds.Scram user password)
login_of (Some user) None = Err NoCredential
login_of None password = Err NoCredential

-- the credential of a mechanism that is listed under this name
abbrev pub cred_for : Sources → Option Cache → Option (List ℕ) → MechName → Result MechCred RunEnd
cred_for sources cache password (names.Kerberos name) = ticket_for name cache sources.server
cred_for sources cache password names.Scram = login_of sources.user password

-- the credentials of the names that are listed, in their order; if one of them has none, the run
-- ends
abbrev pub listed : (MechName → Result MechCred RunEnd) → List MechName
    → Result (List MechCred) RunEnd
listed found [] = Ok []
listed found (name ∷ names) =
    found name >>= λ cred. listed found names >>= λ creds. Ok (cred ∷ creds)

-- the credentials that the words ask for, by the cache and the password that were read
abbrev pub creds_with : Sources → Option Cache → Option (List ℕ) → Result (List MechCred) RunEnd
creds_with sources cache password = listed (cred_for sources cache password) sources.mechs

-- the credentials of a run by the files of a shelf, or how the run ends without them. The cache is
-- read before the password's file is loaded, and the credential is looked for behind both.
abbrev pub creds_from : List NamedFile → Sources → Result (List MechCred) RunEnd
creds_from files sources =
    cache_from files sources.ccache >>= λ cache. password_from files sources.password
    >>= λ password. creds_with sources cache password

-- ---- what a run finds, and asks for

-- a file couldn't be loaded
abbrev pub is_unloaded : RunEnd → Bool
is_unloaded Usage = false
is_unloaded (CannotLoad file) = true
is_unloaded (Bad file at) = false
is_unloaded NoCredential = false
is_unloaded NoMemory = false
is_unloaded LinkFault = false
is_unloaded PeerEnded = false
is_unloaded (Refused denial) = false
is_unloaded (Negotiation refusal) = false
is_unloaded (BadReply why) = false
is_unloaded Foreign = false
is_unloaded Spent = false
is_unloaded Finished = false

-- what is answered where this is due: a fault and want of memory may come at any file
abbrev pub Finds : {A : Type 0} → Result A RunEnd → Result A RunEnd → Type 0
Finds due (Ok value) = due ≡ Ok value
Finds due (Err end) = is_unloaded end ≡ false → end ≢ NoMemory → due ≡ Err end

-- one of the ends of a file that can't be used
abbrev pub IsStopOf : WordFile → RunEnd → Type 0
IsStopOf file end = (stop : FileStop) × (end ≡ end_by file stop)

-- the file that is loaded, none where the words name none
abbrev pub file_named : Option (List ℕ) → List (List ℕ)
file_named None = []
file_named (Some name) = name ∷ []

-- the shelf was asked for the file, where one is named; want of memory may leave it out
pub record AskedOne (old new : List (List ℕ)) (name : Option (List ℕ)) (end : RunEnd) : Type 0 where
  pub front : (count : ℕ) × (new ≡ old ++ take count (file_named name))
  pub whole : end ≢ NoMemory → new ≡ old ++ file_named name

-- the same by what came of it: if the file was read, the shelf was asked for it
abbrev pub AsksOne : {A : Type 0} → List (List ℕ) → List (List ℕ) → Option (List ℕ)
    → Result A RunEnd → Type 0
AsksOne old new name (Ok value) = new ≡ old ++ file_named name
AsksOne old new name (Err end) = AskedOne old new name end

-- the files that words name, in the order in which they are loaded
abbrev pub files_named : Sources → List (List ℕ)
files_named sources = file_named sources.ccache ++ file_named sources.password

-- those that a run with this end asked for: a cache that can't be used ends it
abbrev pub asked_until : Sources → RunEnd → List (List ℕ)
asked_until sources Usage = files_named sources
asked_until sources (CannotLoad Ccache) = file_named sources.ccache
asked_until sources (CannotLoad Password) = files_named sources
asked_until sources (Bad Ccache at) = file_named sources.ccache
asked_until sources (Bad Password at) = files_named sources
asked_until sources NoCredential = files_named sources
asked_until sources NoMemory = files_named sources
asked_until sources LinkFault = files_named sources
asked_until sources PeerEnded = files_named sources
asked_until sources (Refused denial) = files_named sources
asked_until sources (Negotiation refusal) = files_named sources
asked_until sources (BadReply why) = files_named sources
asked_until sources Foreign = files_named sources
asked_until sources Spent = files_named sources
asked_until sources Finished = files_named sources

-- the shelf was asked for these files, each once and in this order; want of memory may leave out
-- the last of them
pub record Asks (old new : List (List ℕ)) (sources : Sources) (end : RunEnd) : Type 0 where
  pub front : (count : ℕ) × (new ≡ old ++ take count (files_named sources))
  pub whole : end ≢ NoMemory → new ≡ old ++ asked_until sources end

-- the same for what was found
abbrev pub AsksFor : {A : Type 0} → List (List ℕ) → List (List ℕ) → Sources → Result A RunEnd
    → Type 0
AsksFor old new sources (Ok value) = new ≡ old ++ files_named sources
AsksFor old new sources (Err end) = Asks old new sources end
