-- The run of the server.
use Rattle.std.specs.Prelude.{◌≡◌, ◌≢◌, ◌⊎◌, ℕ, Bool, true, false, IsTrue, List, [], ◌∷◌, ◌++◌}
use Rattle.std.specs.Prelude.{length, take, is_some, Option, Some, None, Result, Ok, Err}
use Rattle.sec_base.specs.Answers.{Rose}
use Rattle.sec_base.specs.declared.shelf.NamedFile.{NamedFile}
use Rattle.sec_base.specs.declared.shelf.Shelf.{Ghosts}
use Rattle.gss_base.specs.Name.{Name}
use Rattle.gss_base.specs.Principal.{text_form}
use Rattle.krb_files.specs.Keytab.{keytab_of, is_served}
use Rattle.cli_base.specs.Files.{file_in}
use Rattle.krb_files.specs.declared.keytab.Entry.{Entry}
use Rattle.scram_mech.specs.Verifiers.{verifiers_of}
use Rattle.scram_mech.specs.declared.verifiers.Verifier.{Verifier}
use Rattle.accept_core.specs.Logs.{LogOf, kept_digest}
use Rattle.replay_journal.specs.declared.disk.Disk as disks
use Rattle.replay_journal.specs.declared.opening.JournalRefusal.{JournalRefusal}
use Rattle.replay_journal.specs.declared.opening.JournalRefusal.TheVariants as refusals
use Rattle.replay_journal.specs.Openings.{refusal_of, RefusedBy}
use Rattle.journal_gate.specs.Withheld.{disk_faults}
use Rattle.server_desks.specs.Desks.{all_connections, all_records}
use Rattle.server_command.specs.Through.{keeping_of, log_limit}
use Rattle.server_options.specs.Lines.{is_begun}
use Rattle.server_options.specs.Keys.{FromFiles}
use Rattle.server_options.specs.Lines.{Named}
use Rattle.server_desks.specs.declared.desk.Desk.{Desk}
use Rattle.server_options.specs.declared.ending.Counts.{Counts}
use Rattle.server_options.specs.declared.ending.RunEnd.{RunEnd}
use Rattle.server_options.specs.declared.ending.KeyFile.TheVariants.{Journal}
use Rattle.server_options.specs.declared.ending.RunEnd.TheVariants.{CannotLoad, Bad, NoMemory}
use Rattle.server_options.specs.declared.keys.Keys.{Keys}
use Rattle.server_options.specs.declared.options.Files.{Files}
use Rattle.server_options.specs.declared.options.Options.{Options}
use Rattle.cli_base.specs.declared.given.WordsRefusal.{WordsRefusal}

-- the files of the keys, in the order in which they are asked for; words that aren't in the command
-- have none
abbrev pub files_of : Result Options WordsRefusal → List (List ℕ)
files_of (Ok options) = options.files.keytab ∷ options.files.verifiers ∷ []
files_of (Err refusal) = []

-- the name of a journal, nothing where none is kept
abbrev pub journal_name : Option (List ℕ) → List ℕ
journal_name None = []
journal_name (Some name) = name

-- what words name: these files, and an own name of this text form
abbrev pub names_in : Files → List ℕ → Named
names_in files own = record {
  keytab = files.keytab;
  verifiers = files.verifiers;
  journal = journal_name files.journal;
  own = own;
}

-- what the words name, nothing where they aren't in the command
abbrev pub names_of : Result Options WordsRefusal → Named
names_of (Ok options) =
    names_in options.files (text_form options.name.realm options.name.parts)
names_of (Err refusal) = record { keytab = []; verifiers = []; journal = []; own = [] }

-- how many authenticators a journal holds at once
abbrev pub most_held : ℕ
most_held = 1000000

-- how a run ends whose journal can't be opened
abbrev pub end_of_journal : JournalRefusal → RunEnd
end_of_journal refusals.DiskFault = CannotLoad Journal
end_of_journal refusals.BadJournal = Bad Journal 0
end_of_journal refusals.TooMany = Bad Journal most_held
end_of_journal refusals.NoMemory = NoMemory

-- a run ended by its journal, which can't be opened on this disk: the disk failed, or the file is
-- refused by what it holds, or memory was wanted
pub record StopsBy {K : Type 0} (disk : disks.Ghosts K) (old : K) (new : Option K) (start : ℕ)
    (end : RunEnd) : Type 0 where
  pub why : JournalRefusal
  pub ends : end ≡ end_of_journal why
  pub fault : why ≡ refusals.DiskFault → Rose (disk.faults old) (disk_faults disk.faults new)
  pub refused : IsTrue (disk.tells old)
      → RefusedBy (refusal_of (disk.contents old) most_held start) why

-- the same, where there is a disk
abbrev pub StopsAt : {K : Type 0} → disks.Ghosts K → Option K → Option K → ℕ → RunEnd → Type 0
StopsAt disk None new start end = ⊥
StopsAt disk (Some old) new start end = StopsBy disk old new start end

-- a file on this disk isn't refused by what it holds
abbrev pub IsJournal : {K : Type 0} → disks.Ghosts K → Option K → ℕ → Type 0
IsJournal disk None start = ⊥
IsJournal disk (Some held) start = refusal_of (disk.contents held) most_held start ≡ None

-- the disk tells what it holds
abbrev pub TellsAt : {K : Type 0} → disks.Ghosts K → Option K → Type 0
TellsAt disk None = ⊥
TellsAt disk (Some held) = IsTrue (disk.tells held)

-- a run of words with these options ended by the journal that they name
abbrev pub JournalStops : {K : Type 0} → disks.Ghosts K → Option K → Option K → ℕ → Options
    → RunEnd → Type 0
JournalStops disk old new start options end =
    (is_some options.files.journal ≡ true) × StopsAt disk old new start end

-- the journal that they name was opened, so it isn't refused where the disk tells
abbrev pub JournalOpens : {K : Type 0} → disks.Ghosts K → Option K → ℕ → Options → Type 0
JournalOpens disk old start options =
    is_some options.files.journal ≡ true → TellsAt disk old → IsJournal disk old start

-- the journal that they name can be opened, and the disk tells so
abbrev pub HasJournal : {K : Type 0} → disks.Ghosts K → Option K → ℕ → Options → Type 0
HasJournal disk old start options =
    is_some options.files.journal ≡ true → TellsAt disk old × IsJournal disk old start

-- words in the command that name a journal
abbrev pub names_journal : Result Options WordsRefusal → Bool
names_journal (Ok options) = is_some options.files.journal
names_journal (Err refusal) = false

-- a run ends by what its keys come to; with keys it ends by its journal, or desks are served, want
-- of memory aside
abbrev pub EndsBy : (RunEnd → Type 0) → Type 0 → Result Keys RunEnd → RunEnd → Type 0
EndsBy Stops Opens (Err stop) end = end ≡ stop
EndsBy Stops Opens (Ok keys) end = Stops end ⊎ (Opens × (end ≢ NoMemory → is_begun end ≡ true))

-- the run ended by the keys in the files that its options name, and by its journal
pub record Begins (Stops : RunEnd → Type 0) (Opens : Type 0) (tells : Bool) (files : List NamedFile)
    (before after : List (List ℕ)) (faults faults' : ℕ) (options : Options) (end : RunEnd) : Type
    0 where
  pub keys : Result Keys RunEnd
  pub given : FromFiles tells files before after faults faults' options.files options.name keys
  pub ends : EndsBy Stops Opens keys end

-- the files are there, within the limit and of their formats, and the keytab has a key for the own
-- name
pub record AreValid (tells : Bool) (files : List NamedFile) (named : Files)
    (name : Name) : Type 0 where
  pub told : IsTrue tells
  pub octets : List ℕ
  pub content : file_in files named.keytab ≡ Ok octets
  pub entries : List Entry
  pub read : keytab_of octets ≡ Ok entries
  pub served : is_served name entries ≡ true
  pub lines : List ℕ
  pub text : file_in files named.verifiers ≡ Ok lines
  pub users : List Verifier
  pub known : verifiers_of lines ≡ Ok users

-- the log was kept under the limits of the options
pub record HasLimits (options : Options) (log : LogOf) : Type 0 where
  pub width : log.width ≡ options.window
  pub limit : log.limit ≡ log_limit options.log
  pub contexts : log.contexts ≡ options.contexts
  pub marks : log.marks ≡ options.marks
  pub keeping : log.keeping ≡ keeping_of options

-- what a run's line says: how many connections and records its desks had, how many entries its log
-- has, and the log's digest where it was kept
abbrev pub counts_of : {P C D K M W : Type 0} → List (Desk P C D K M W) → LogOf → Counts
counts_of desks log = record {
  connections = all_connections desks;
  records =
      all_records desks;
  entries = length log.entries;
  digest = kept_digest log;
}

-- ---- the same of a shelf before and after

-- the run ended by the keys in the files that its options name, and by its journal
abbrev pub RunBegins : {F K : Type 0} → Ghosts F → disks.Ghosts K → F → F → Option K → Option K
    → ℕ → Options → RunEnd → Type 0
RunBegins shelf disk old new held back start options end =
    Begins (JournalStops disk held back start options) (JournalOpens disk held start options)
    (shelf.tells old) (shelf.files old) (shelf.asked old) (shelf.asked new)
    (shelf.faults old) (shelf.faults new) options end

-- it has what the options name, and all of it can be used
abbrev pub HasValid : {F : Type 0} → Ghosts F → F → Options → Type 0
HasValid shelf old options =
    AreValid (shelf.tells old) (shelf.files old) options.files options.name

-- at most these files were asked for, in this order
abbrev pub AsksAtMost : {F : Type 0} → Ghosts F → F → F → List (List ℕ) → Type 0
AsksAtMost shelf old new names = IsTrue (shelf.tells old)
    → (count : ℕ) × (shelf.asked new ≡ shelf.asked old ++ take count names)
