-- The keys of a run.
use Rattle.std.specs.Prelude.{◌≡◌, ◌≤◌, ℕ, Bool, List, Result, Ok, Err, if◌then◌else◌}
use Rattle.sec_base.specs.declared.shelf.NamedFile.{NamedFile}
use Rattle.sec_base.specs.declared.shelf.Shelf.{Ghosts}
use Rattle.gss_base.specs.Name.{Name}
use Rattle.krb_files.specs.Keytab.{keytab_of, is_served}
use Rattle.krb_files.specs.declared.keytab.Entry.{Entry}
use Rattle.krb_files.specs.declared.refusal.FileRefusal.{FileRefusal}
use Rattle.scram_mech.specs.Verifiers.{verifiers_of}
use Rattle.scram_mech.specs.declared.verifiers.Verifier.{Verifier}
use Rattle.scram_mech.specs.declared.refusal.VerifierRefusal.{VerifierRefusal}
use Rattle.scram_mech.specs.declared.refusal.VerifierRefusal.TheVariants as lines
use Rattle.cli_base.specs.Files.{FromShelf, stop_by}
use Rattle.cli_base.specs.declared.files.FileStop.{FileStop}
use Rattle.cli_base.specs.declared.files.FileStop.TheVariants as stops
use Rattle.server_options.specs.declared.ending.KeyFile.{KeyFile}
use Rattle.server_options.specs.declared.ending.KeyFile.TheVariants.{Keytab, Verifiers}
use Rattle.server_options.specs.declared.ending.RunEnd.{RunEnd}
use Rattle.server_options.specs.declared.ending.RunEnd.TheVariants.{CannotLoad, Bad, NoKey}
use Rattle.server_options.specs.declared.ending.RunEnd.TheVariants.{NoMemory}
use Rattle.server_options.specs.declared.keys.Keys.{Keys}
use Rattle.server_options.specs.declared.options.Files.{Files}

-- how the run ends where this file can't be used
abbrev pub end_by : KeyFile → FileStop → RunEnd
end_by file stops.CannotLoad = CannotLoad file
end_by file (stops.Bad at) = Bad file at
end_by file stops.NoMemory = NoMemory

-- the keytab that was read, or how the run ends where it is refused
abbrev pub keytab_by : Result (List Entry) FileRefusal → Result (List Entry) RunEnd
keytab_by (Err refusal) = Err (end_by Keytab (stop_by refusal))
keytab_by (Ok entries) = Ok entries

-- the keytab in what a shelf answered
abbrev pub keytab_in : Result (List ℕ) FileStop → Result (List Entry) RunEnd
keytab_in (Err stop) = Err (end_by Keytab stop)
keytab_in (Ok octets) = keytab_by (keytab_of octets)

-- refused verifiers are bad at the line of that number
abbrev pub verifier_stop : VerifierRefusal → FileStop
verifier_stop (lines.Line number) = stops.Bad number
verifier_stop (lines.Twice number) = stops.Bad number
verifier_stop lines.NoMemory = stops.NoMemory

-- the verifiers that were read, or how the run ends where they are refused
abbrev pub verifiers_by : Result (List Verifier) VerifierRefusal → Result (List Verifier) RunEnd
verifiers_by (Err refusal) = Err (end_by Verifiers (verifier_stop refusal))
verifiers_by (Ok users) = Ok users

-- the verifiers in what a shelf answered
abbrev pub verifiers_in : Result (List ℕ) FileStop → Result (List Verifier) RunEnd
verifiers_in (Err stop) = Err (end_by Verifiers stop)
verifiers_in (Ok octets) = verifiers_by (verifiers_of octets)

-- keytab and verifiers, where the keytab has a key for the own name
abbrev pub keys_with : Name → List Entry → Result (List Verifier) RunEnd → Result Keys RunEnd
keys_with name entries (Err end) = Err end
keys_with name entries (Ok users) = if is_served name entries
    then Ok (record { keytab = entries; verifiers = users }) else Err NoKey

-- the verifiers are asked for once the keytab was read, and the key for the own name is looked for
-- after that
pub record WithVerifiers (tells : Bool) (files : List NamedFile) (before after : List (List ℕ))
    (faults faults' : ℕ) (file : List ℕ) (name : Name) (entries : List Entry)
    (keys : Result Keys RunEnd) : Type 0 where
  pub verifiers : Result (List Verifier) RunEnd
  pub read : FromShelf NoMemory tells files before after faults faults' file verifiers_in verifiers
  pub are : keys ≡ keys_with name entries verifiers

-- what follows the keytab: the verifiers are asked for, or nothing where the run ended by it
abbrev pub BehindKeytab : Bool → List NamedFile → List (List ℕ) → List (List ℕ) → ℕ → ℕ → List ℕ
    → Name → Result (List Entry) RunEnd → Result Keys RunEnd → Type 0
BehindKeytab tells files before after faults faults' file name (Err end) keys =
    (keys ≡ Err end) × (after ≡ before)
BehindKeytab tells files before after faults faults' file name (Ok entries) keys =
    WithVerifiers tells files before after faults faults' file name entries keys

-- the keys of a run: the shelf was asked for the keytab, and then for the verifiers
pub record FromFiles (tells : Bool) (files : List NamedFile) (before after : List (List ℕ))
    (faults faults' : ℕ) (named : Files) (name : Name) (keys : Result Keys RunEnd) : Type 0 where
  pub keytab : Result (List Entry) RunEnd
  pub between : List (List ℕ)
  pub counted : ℕ
  pub read : FromShelf NoMemory tells files before between faults counted named.keytab keytab_in
      keytab
  pub behind : BehindKeytab tells files between after counted faults' named.verifiers name keytab
      keys
  pub grows : counted ≤ faults'

-- ---- the same of a shelf before and after

-- it was asked for the file, and this was read in its answer
abbrev pub ReadFrom : {F A : Type 0} → Ghosts F → F → F → List ℕ
    → (Result (List ℕ) FileStop → Result A RunEnd) → Result A RunEnd → Type 0
ReadFrom shelf old new file read_in read =
    FromShelf NoMemory (shelf.tells old) (shelf.files old) (shelf.asked old) (shelf.asked new)
    (shelf.faults old) (shelf.faults new) file read_in read

-- the keys of a run: it was asked for the keytab, and then for the verifiers
abbrev pub KeysFrom : {F : Type 0} → Ghosts F → F → F → Files → Name → Result Keys RunEnd → Type 0
KeysFrom shelf old new named name keys =
    FromFiles (shelf.tells old) (shelf.files old) (shelf.asked old) (shelf.asked new)
    (shelf.faults old) (shelf.faults new) named name keys
