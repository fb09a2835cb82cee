-- The file of a run: the keytab of a server, or the credential cache of a client.
use Rattle.std.specs.Prelude.{ℕ, List, Option, Some, None, Result, Ok, Err, if◌then◌else◌}
use Rattle.sec_base.specs.declared.shelf.Shelf.{Ghosts}
use Rattle.gss_base.specs.Name.{Name}
use Rattle.krb_files.specs.Ccache.{ccache_of, granted_for}
use Rattle.krb_files.specs.Granted.{Granted, Cache}
use Rattle.krb_files.specs.Keytab.{keytab_of, is_served}
use Rattle.krb_files.specs.declared.keytab.Entry.{Entry}
use Rattle.krb_files.specs.declared.refusal.FileRefusal.{FileRefusal}
use Rattle.cli_base.specs.Files.{FromShelf, stop_by}
use Rattle.cli_base.specs.declared.files.FileStop.{FileStop}
use Rattle.cli_base.specs.declared.files.FileStop.TheVariants as stops
use Rattle.sasl_options.specs.declared.ending.RunEnd.{RunEnd}
use Rattle.sasl_options.specs.declared.ending.RunEnd.TheVariants.{CannotLoad, Bad, NoKey}
use Rattle.sasl_options.specs.declared.ending.RunEnd.TheVariants.{NoCredential, NoMemory}

-- how the run ends where its file can't be used
abbrev pub end_by : FileStop → RunEnd
end_by stops.CannotLoad = CannotLoad
end_by (stops.Bad at) = Bad at
end_by stops.NoMemory = NoMemory

-- the keytab that was read, where it has a key for the own name
abbrev pub keytab_for : Name → Result (List Entry) FileRefusal → Result (List Entry) RunEnd
keytab_for name (Err refusal) = Err (end_by (stop_by refusal))
keytab_for name (Ok entries) = if is_served name entries then Ok entries else Err NoKey

-- the same by what the shelf answered
abbrev pub keytab_in : Name → Result (List ℕ) FileStop → Result (List Entry) RunEnd
keytab_in name (Err stop) = Err (end_by stop)
keytab_in name (Ok octets) = keytab_for name (keytab_of octets)

-- a credential, without which the run ends
abbrev pub or_none : Option Granted → Result Granted RunEnd
or_none None = Err NoCredential
or_none (Some granted) = Ok granted

-- the credential for the server in the cache that was read: the one that ends last
abbrev pub granted_by : Name → Result Cache FileRefusal → Result Granted RunEnd
granted_by server (Err refusal) = Err (end_by (stop_by refusal))
granted_by server (Ok cache) = or_none (granted_for server cache.credentials)

-- the same by what the shelf answered
abbrev pub credential_in : Name → Result (List ℕ) FileStop → Result Granted RunEnd
credential_in server (Err stop) = Err (end_by stop)
credential_in server (Ok octets) = granted_by server (ccache_of octets)

-- the shelf was asked for the file, and this was read in its answer
abbrev pub ReadFrom : {F A : Type 0} → Ghosts F → F → F → List ℕ
    → (Result (List ℕ) FileStop → Result A RunEnd) → Result A RunEnd → Type 0
ReadFrom shelf old new file read_in read =
    FromShelf NoMemory (shelf.tells old) (shelf.files old) (shelf.asked old) (shelf.asked new)
    (shelf.faults old) (shelf.faults new) file read_in read
