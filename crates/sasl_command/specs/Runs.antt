-- The run of the program: its words, its file, what it spoke, and what it printed.
use Rattle.std.specs.Prelude.{◌≡◌, ◌≢◌, ◌⊎◌, ℕ, Bool, IsTrue, List, [], ◌∷◌, map, Option, None}
use Rattle.std.specs.Prelude.{Result, Ok, Err}
use Rattle.sec_base.specs.declared.shelf.Shelf as shelves
use Rattle.sec_base.specs.declared.sink.Sink as sinks
use Rattle.gss_base.specs.Principal.{text_form}
use Rattle.gss_base.specs.declared.mech.KerberosName.{KerberosName}
use Rattle.gss_base.specs.declared.mech.KerberosName.TheVariants.{Standard}
use Rattle.gss_base.specs.declared.mech.MechName.TheVariants.{Kerberos}
use Rattle.krb_files.specs.Granted.{Granted}
use Rattle.krb_files.specs.declared.keytab.Entry.{Entry}
use Rattle.spnego_core.specs.declared.setup.MechCred.TheVariants as creds
use Rattle.mech_objects.specs.Meaning.{MechSays, armed}
use Rattle.mech_objects.specs.Standard.{blank_of}
use Rattle.sasl_layer.specs.declared.facts.LayerFacts.{LayerFacts}
use Rattle.sasl_layer.specs.declared.layer.Wish.{Wish}
use Rattle.cli_base.specs.declared.given.WordsRefusal.{WordsRefusal}
use Rattle.sasl_options.specs.Endings.{Named, end_of_words}
use Rattle.sasl_options.specs.Files.{keytab_in, credential_in, ReadFrom}
use Rattle.sasl_options.specs.declared.ending.RunEnd.{RunEnd}
use Rattle.sasl_options.specs.declared.ending.RunEnd.TheVariants.{NoMemory}
use Rattle.sasl_options.specs.declared.words.AskWords.{AskWords}
use Rattle.sasl_options.specs.declared.words.ServeWords.{ServeWords}
use Rattle.sasl_options.specs.declared.words.Wished.{Wished}
use Rattle.sasl_options.specs.declared.words.Words.{Words}
use Rattle.sasl_options.specs.declared.words.Words.TheVariants.{Serve, Ask}
use Rattle.sasl_command.specs.Turns.{Seen}
use Rattle.sasl_command.specs.Serving.{Served, IsWish}
use Rattle.sasl_command.specs.Asking.{Opens, Spoke}
use Rattle.sasl_command.specs.Printing.{Prints, lines}

-- one object of Kerberos that has no credential, under either name
abbrev pub IsBlank : List MechSays → Type 0
IsBlank objects = (name : KerberosName) × (objects ≡ blank_of (Kerberos name) ∷ [])

-- the objects with this credential
abbrev pub armed_all : List MechSays → Granted → List MechSays
armed_all objects credential =
    map (λ object. armed object (creds.Kerberos Standard credential)) objects

-- what the words name: the file and the principal's text form; nothing where they aren't in the
-- command
abbrev pub names_in : Words → Named
names_in (Serve words) =
    record { file = words.keytab; principal = text_form words.name.realm words.name.parts }
names_in (Ask words) =
    record { file = words.ccache; principal = text_form words.server.realm words.server.parts }

-- nothing is named
abbrev pub unnamed : Named
unnamed = record { file = []; principal = [] }

abbrev pub names_of : Result Words WordsRefusal → Named
names_of (Ok words) = names_in words
names_of (Err refusal) = unnamed

-- nothing was read or written on the link, and no layer stood
pub record IsSilent (old new : Seen) (facts : Option LayerFacts) : Type 0 where
  pub same : new.wire ≡ old.wire
  pub none : facts ≡ None

-- ---- `serve`

-- a server with this keytab spoke, or the run ended without one
abbrev pub ServeBy : Bool → ServeWords → Seen → Seen → Option LayerFacts → RunEnd
    → Result (List Entry) RunEnd → Type 0
ServeBy tells words old new facts end (Err stop) = (end ≡ stop) × IsSilent old new facts
ServeBy tells words old new facts end (Ok keytab) =
    IsTrue tells → Served keytab words.name words.wished old new facts end

-- the shelf was asked for the keytab, and that is what it answered
pub record ServeRun {F : Type 0} (shelf : shelves.Ghosts F) (f f' : F) (tells : Bool)
    (words : ServeWords) (old new : Seen) (facts : Option LayerFacts) (end : RunEnd) : Type 0 where
  pub keytab : Result (List Entry) RunEnd
  pub read : ReadFrom shelf f f' words.keytab (keytab_in words.name) keytab
  pub ran : ServeBy tells words old new facts end keytab

-- ---- `ask`

-- a client with these objects spoke
pub record SpokeBy (objects : List MechSays) (wished : Wished) (sending : List ℕ) (old new : Seen)
    (facts : Option LayerFacts) (echo : Option (List ℕ)) (end : RunEnd) : Type 0 where
  pub wish : Wish
  pub is_wish : IsWish wish wished
  pub spoke : Spoke wish sending (Opens objects) old new facts echo end

-- a client with this credential spoke, and what it agreed on and read was printed; the run ends as
-- that did, or for want of memory for what is printed
pub record AskRan {O : Type 0} (sink : sinks.Ghosts O) (o o' : O) (tells : Bool)
    (words : AskWords) (objects : List MechSays) (old new : Seen) (status : ℕ)
    (facts : Option LayerFacts) (end : RunEnd) (credential : Granted) : Type 0 where
  pub echo : Option (List ℕ)
  pub parted : RunEnd
  pub spoke : IsTrue tells → SpokeBy (armed_all objects credential) words.wished words.octets old
      new facts echo parted
  pub ends : (end ≡ parted) ⊎ (end ≡ NoMemory)
  pub printed : IsTrue (sink.tells o) → Prints (sink.written o) (sink.written o') status
      (lines facts echo)

-- the same, or the run ended without a credential, and nothing was printed
abbrev pub AskBy : {O : Type 0} → sinks.Ghosts O → O → O → Bool → AskWords → List MechSays → Seen
    → Seen → ℕ → Option LayerFacts → RunEnd → Result Granted RunEnd → Type 0
AskBy sink o o' tells words objects old new status facts end (Err stop) =
    (end ≡ stop) × IsSilent old new facts × (o' ≡ o)
AskBy sink o o' tells words objects old new status facts end (Ok credential) =
    AskRan sink o o' tells words objects old new status facts end credential

-- the shelf was asked for the credential cache, and that is what it answered
pub record AskRun {F O : Type 0} (shelf : shelves.Ghosts F) (sink : sinks.Ghosts O) (f f' : F)
    (o o' : O) (tells : Bool) (words : AskWords) (objects : List MechSays) (old new : Seen)
    (status : ℕ) (facts : Option LayerFacts) (end : RunEnd) : Type 0 where
  pub credential : Result Granted RunEnd
  pub read : ReadFrom shelf f f' words.ccache (credential_in words.server) credential
  pub ran : AskBy sink o o' tells words objects old new status facts end credential

-- ---- the whole

-- nothing was asked for, spoken or printed
pub record Nothing {F O : Type 0} (f f' : F) (o o' : O) (old new : Seen)
    (facts : Option LayerFacts) : Type 0 where
  pub unasked : f' ≡ f
  pub unprinted : o' ≡ o
  pub silent : IsSilent old new facts

-- words that aren't in the command are refused; there may be no memory to read others
abbrev pub Ran : {F O : Type 0} → shelves.Ghosts F → sinks.Ghosts O → F → F → O → O → Bool
    → List MechSays → Seen → Seen → ℕ → Option LayerFacts → RunEnd → Result Words WordsRefusal
    → Type 0
Ran shelf sink f f' o o' tells objects old new status facts end (Ok (Serve words)) =
    ((end ≡ NoMemory) × Nothing f f' o o' old new facts)
    ⊎ (ServeRun shelf f f' tells words old new facts end × (o' ≡ o))
Ran shelf sink f f' o o' tells objects old new status facts end (Ok (Ask words)) =
    ((end ≡ NoMemory) × Nothing f f' o o' old new facts)
    ⊎ AskRun shelf sink f f' o o' tells words objects old new status facts end
Ran shelf sink f f' o o' tells objects old new status facts end (Err refusal) =
    (end ≢ NoMemory → end ≡ end_of_words refusal) × Nothing f f' o o' old new facts
