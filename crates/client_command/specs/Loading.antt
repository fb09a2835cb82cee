-- What a run read in the answers of its shelf, and how it ends by that.
use Rattle.std.specs.Prelude.{◌≡◌, ◌≢◌, ◌≤◌, ℕ, Bool, true, List, Option, Some, None, Result, Ok}
use Rattle.std.specs.Prelude.{Err}
use Rattle.sec_base.specs.Answers.{Gives}
use Rattle.sec_base.specs.declared.shelf.NamedFile.{NamedFile}
use Rattle.sec_base.specs.declared.shelf.Shelf.{Ghosts}
use Rattle.krb_files.specs.Granted.{Cache}
use Rattle.spnego_core.specs.declared.setup.MechCred.{MechCred}
use Rattle.cli_base.specs.Files.{FromShelf}
use Rattle.cli_base.specs.declared.files.FileStop.{FileStop}
use Rattle.client_command.specs.Credentials.{◌>>=◌, cache_in, password_in, creds_with}
use Rattle.client_options.specs.Endings.{is_begun}
use Rattle.client_options.specs.declared.ending.RunEnd.{RunEnd}
use Rattle.client_options.specs.declared.ending.RunEnd.TheVariants.{NoMemory}
use Rattle.client_options.specs.declared.words.Sources.{Sources}

-- ---- the files that the words name

-- what was read of a file that is named
abbrev pub if_read : {A : Type 0} → Result A RunEnd → Result (Option A) RunEnd
if_read read = read >>= λ what. Ok (Some what)

-- the shelf was asked for the file, and this was read in its answer; it wasn't asked where the
-- words name none
abbrev pub FromNamed : {A : Type 0} → Bool → List NamedFile → List (List ℕ) → List (List ℕ) → ℕ
    → ℕ → Option (List ℕ) → (Result (List ℕ) FileStop → Result A RunEnd)
    → Result (Option A) RunEnd → Type 0
FromNamed tells files before after faults faults' None read_in read =
    (read ≡ Ok None) × (after ≡ before) × (faults' ≡ faults)
FromNamed tells files before after faults faults' (Some name) read_in read =
    FromShelf NoMemory tells files before after faults faults' name
    (λ answer. if_read (read_in answer)) read

-- the password's file is asked for once the cache was read, and the credentials are looked for
-- after that
pub record WithPassword (tells : Bool) (files : List NamedFile) (before after : List (List ℕ))
    (faults faults' : ℕ) (sources : Sources) (cache : Option Cache)
    (creds : Result (List MechCred) RunEnd) : Type 0 where
  pub password : Result (Option (List ℕ)) RunEnd
  pub read : FromNamed tells files before after faults faults' sources.password password_in
      password
  pub given : Gives NoMemory (λ list. list) creds (password >>= creds_with sources cache)

-- what follows the cache: the password's file is asked for, or nothing where the run ended by the
-- cache
abbrev pub BehindCache : Bool → List NamedFile → List (List ℕ) → List (List ℕ) → ℕ → ℕ → Sources
    → Result (Option Cache) RunEnd → Result (List MechCred) RunEnd → Type 0
BehindCache tells files before after faults faults' sources (Err end) creds =
    (creds ≡ Err end) × (after ≡ before) × (faults' ≡ faults)
BehindCache tells files before after faults faults' sources (Ok cache) creds =
    WithPassword tells files before after faults faults' sources cache creds

-- the credentials of a run: the shelf was asked for the cache, and then for the password's file
pub record AreCreds (tells : Bool) (files : List NamedFile) (before after : List (List ℕ))
    (faults faults' : ℕ) (sources : Sources) (creds : Result (List MechCred) RunEnd) : Type 0
  where
    pub cache : Result (Option Cache) RunEnd
    pub between : List (List ℕ)
    pub counted : ℕ
    pub read : FromNamed tells files before between faults counted sources.ccache cache_in cache
    pub behind : BehindCache tells files between after counted faults' sources cache creds
    pub grows : counted ≤ faults'

-- ---- the end of a run

-- a run ends by what its credentials come to; with credentials a session is held, want of memory
-- aside
abbrev pub EndsBy : Result (List MechCred) RunEnd → RunEnd → Type 0
EndsBy (Err stop) end = end ≡ stop
EndsBy (Ok creds) end = end ≢ NoMemory → is_begun end ≡ true

-- the run ended by the credentials in the files that its words name
pub record Begins (tells : Bool) (files : List NamedFile) (before after : List (List ℕ))
    (faults faults' : ℕ) (sources : Sources) (end : RunEnd) : Type 0 where
  pub creds : Result (List MechCred) RunEnd
  pub given : AreCreds tells files before after faults faults' sources creds
  pub ends : EndsBy creds end

-- ---- the same of a shelf before and after

-- it was asked for the file, and this was read in its answer
abbrev pub ReadFrom : {F A : Type 0} → Ghosts F → F → F → List ℕ
    → (Result (List ℕ) FileStop → Result A RunEnd) → Result A RunEnd → Type 0
ReadFrom shelf old new name read_in read =
    FromShelf NoMemory (shelf.tells old) (shelf.files old) (shelf.asked old) (shelf.asked new)
    (shelf.faults old) (shelf.faults new) name read_in read

-- the same, where the words name the file
abbrev pub ReadNamed : {F A : Type 0} → Ghosts F → F → F → Option (List ℕ)
    → (Result (List ℕ) FileStop → Result A RunEnd) → Result (Option A) RunEnd → Type 0
ReadNamed shelf old new name read_in read =
    FromNamed (shelf.tells old) (shelf.files old) (shelf.asked old) (shelf.asked new)
    (shelf.faults old) (shelf.faults new) name read_in read

-- the credentials of a run
abbrev pub CredsFrom : {F : Type 0} → Ghosts F → F → F → Sources → Result (List MechCred) RunEnd
    → Type 0
CredsFrom shelf old new sources creds =
    AreCreds (shelf.tells old) (shelf.files old) (shelf.asked old) (shelf.asked new)
    (shelf.faults old) (shelf.faults new) sources creds

-- the run ended by the credentials in the files that its words name
abbrev pub RunBegins : {F : Type 0} → Ghosts F → F → F → Sources → RunEnd → Type 0
RunBegins shelf old new sources end =
    Begins (shelf.tells old) (shelf.files old) (shelf.asked old) (shelf.asked new)
    (shelf.faults old) (shelf.faults new) sources end
