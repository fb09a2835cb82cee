-- What was read in the answers of a shelf, from file to file.
use Rattle.std.proofs.Common.{◌≡◌, ℕ, ◌≤◌, Bool, true, false, List, Option, Some, Result, Ok, Err, refl, sym, ap, subst, ◌∙◌}
use Rattle.std.specs.Prelude.{IfErr}
use Rattle.sec_base.specs.Answers.{Gives}
use Rattle.sec_base.specs.declared.shelf.NamedFile.{NamedFile}
use Rattle.krb_files.specs.Granted.{Cache}
use Rattle.spnego_core.specs.declared.setup.MechCred.{MechCred}
use Rattle.cli_base.specs.Files.{FromShelf, LoadsFile, AsksFile}
use Rattle.cli_base.specs.declared.files.FileStop.{FileStop}
use Rattle.cli_base.specs.declared.files.FileStop.TheVariants as stops
use Rattle.client_command.specs.Credentials.{◌>>=◌, cache_in, password_in, creds_with, end_by, is_unloaded, Finds, AsksOne}
use Rattle.client_command.specs.Loading.{if_read, FromNamed, AreCreds}
use Rattle.client_options.specs.declared.ending.RunEnd.{RunEnd}
use Rattle.client_options.specs.declared.ending.RunEnd.TheVariants.{NoMemory}
use Rattle.client_options.specs.declared.ending.WordFile.{WordFile}
use Rattle.client_options.specs.declared.words.Sources.{Sources}

read-some : {A : Type 0} (tells : Bool) (files : List NamedFile) (before after : List (List ℕ)) (faults faults' : ℕ) (name : List ℕ) (read_in : Result (List ℕ) FileStop → Result A RunEnd) (read : Result A RunEnd)
    → FromShelf NoMemory tells files before after faults faults' name read_in read → FromShelf NoMemory tells files before after faults faults' name (λ answer. if_read (read_in answer)) (if_read read)
read-some {A} tells files before after faults faults' name read_in (Ok what) h = record { answer = h.answer; loaded = h.loaded; given = ap (λ (r : Result A RunEnd). if_read r) h.given }
read-some {A} tells files before after faults faults' name read_in (Err end) h = record { answer = h.answer; loaded = h.loaded; given = λ other. ap (λ (r : Result A RunEnd). if_read r) (h.given other) }

-- what was read of a file is what was read where the words name it
pub read-named : {A : Type 0} (tells : Bool) (files : List NamedFile) (before after : List (List ℕ)) (faults faults' : ℕ) (named : Option (List ℕ)) (name : List ℕ) (read_in : Result (List ℕ) FileStop → Result A RunEnd) (read : Result A RunEnd)
    → named ≡ Some name → FromShelf NoMemory tells files before after faults faults' name read_in read → FromNamed tells files before after faults faults' named read_in (if_read read)
read-named tells files before after faults faults' named name read_in read e h =
    subst (λ (n : Option (List ℕ)). FromNamed tells files before after faults faults' n read_in (if_read read)) (sym e) (read-some tells files before after faults faults' name read_in read h)

from-same : (tells tells' : Bool) (files files' : List NamedFile) (before after : List (List ℕ)) (faults faults' : ℕ) (named : Option (List ℕ)) (read : Result (Option (List ℕ)) RunEnd)
    → tells' ≡ tells → files' ≡ files → FromNamed tells' files' before after faults faults' named password_in read → FromNamed tells files before after faults faults' named password_in read
from-same tells tells' files files' before after faults faults' named read t f h =
    subst (λ (b : Bool). FromNamed b files before after faults faults' named password_in read) t (subst (λ (fs : List NamedFile). FromNamed tells' fs before after faults faults' named password_in read) f h)

-- the password's file is asked for of a shelf that tells as before
pub with-cache : (tells tells' : Bool) (files files' : List NamedFile) (before between after : List (List ℕ)) (faults counted faults' : ℕ) (sources : Sources) (cache : Option Cache) (password : Result (Option (List ℕ)) RunEnd) (creds : Result (List MechCred) RunEnd)
    → FromNamed tells files before between faults counted sources.ccache cache_in (Ok cache) → tells' ≡ tells → files' ≡ files → FromNamed tells' files' between after counted faults' sources.password password_in password → counted ≤ faults'
    → Gives NoMemory (λ list. list) creds (password >>= creds_with sources cache) → AreCreds tells files before after faults faults' sources creds
with-cache tells tells' files files' before between after faults counted faults' sources cache password creds first t f second le are = record {
  cache = Ok cache;
  between = between;
  counted = counted;
  read = first;
  behind = record { password = password; read = from-same tells tells' files files' between after counted faults' sources.password password t f second; given = are };
  grows = le;
}

-- ---- a file that is loaded and read

-- what was read of it is found
pub finds : {A : Type 0} (due read : Result A RunEnd) → Gives NoMemory (λ what. what) read due → Finds due read
finds due (Ok what) given = given
finds due (Err end) given = λ loaded other. given other

-- one end of a run is another
same-end : {A : Type 0} (x y : RunEnd) → ◌≡◌ {A = Result A RunEnd} (Err x) (Err y) → x ≡ y
same-end x y e = cc

-- how a file that can't be used is read: the run ends by it
abbrev Stops : {A : Type 0} → WordFile → (Result (List ℕ) FileStop → Result A RunEnd) → Type 0
Stops {A} file read_in = (stop : FileStop) → read_in (Err stop) ≡ Err (end_by file stop)

-- the end of a run that ended by such a file
ends-by : {A : Type 0} (file : WordFile) (read_in : Result (List ℕ) FileStop → Result A RunEnd) (stop : FileStop) (end : RunEnd) → Stops file read_in → read_in (Err stop) ≡ Err end → end_by file stop ≡ end
ends-by {A} file read_in stop end stopped is = same-end {A = A} (end_by file stop) end (sym (stopped stop) ∙ is)

-- what is due of a file's answer is found
pub finds-loaded : {A : Type 0} (file : WordFile) (read_in : Result (List ℕ) FileStop → Result A RunEnd) (due loaded : Result (List ℕ) FileStop) (read : Result A RunEnd)
    → Stops file read_in → LoadsFile due loaded → Gives NoMemory (λ what. what) read (read_in loaded) → Finds (read_in due) read
finds-loaded {A} file read_in due (Ok octets) read stopped told given = finds (read_in due) read (subst (λ (d : Result (List ℕ) FileStop). Gives NoMemory (λ (what : A). what) read (read_in d)) (sym told) given)
finds-loaded {A} file read_in due (Err (stops.Bad at)) read stopped told given = finds (read_in due) read (subst (λ (d : Result (List ℕ) FileStop). Gives NoMemory (λ (what : A). what) read (read_in d)) (sym told) given)
finds-loaded {A} file read_in due (Err stops.CannotLoad) (Ok what) stopped told given = let bad : ◌≡◌ {A = Result A RunEnd} (Err (end_by file stops.CannotLoad)) (Ok what) = sym (stopped stops.CannotLoad) ∙ given in cc
finds-loaded {A} file read_in due (Err stops.CannotLoad) (Err end) stopped told given = λ loaded other.
    let bad : true ≡ false = ap is_unloaded (ends-by file read_in stops.CannotLoad end stopped (given other)) ∙ loaded in cc
finds-loaded {A} file read_in due (Err stops.NoMemory) (Ok what) stopped told given = let bad : ◌≡◌ {A = Result A RunEnd} (Err (end_by file stops.NoMemory)) (Ok what) = sym (stopped stops.NoMemory) ∙ given in cc
finds-loaded {A} file read_in due (Err stops.NoMemory) (Err end) stopped told given = λ loaded other. absurd (other (sym (ends-by file read_in stops.NoMemory end stopped (given other))))

-- the shelf was asked for the file
pub asked-loaded : {A : Type 0} (old new : List (List ℕ)) (name : List ℕ) (file : WordFile) (read_in : Result (List ℕ) FileStop → Result A RunEnd) (loaded : Result (List ℕ) FileStop) (read : Result A RunEnd)
    → Stops file read_in → AsksFile old new name loaded → Gives NoMemory (λ what. what) read (read_in loaded) → AsksOne old new (Some name) read
asked-loaded {A} old new name file read_in (Ok octets) (Ok what) stopped all given = all
asked-loaded {A} old new name file read_in (Ok octets) (Err end) stopped all given = record { front = (1, all); whole = λ other. all }
asked-loaded {A} old new name file read_in (Err stop) (Ok what) stopped all given = let bad : ◌≡◌ {A = Result A RunEnd} (Err (end_by file stop)) (Ok what) = sym (stopped stop) ∙ given in cc
asked-loaded {A} old new name file read_in (Err stops.CannotLoad) (Err end) stopped all given = record { front = (1, all); whole = λ other. all }
asked-loaded {A} old new name file read_in (Err (stops.Bad at)) (Err end) stopped all given = record { front = (1, all); whole = λ other. all }
asked-loaded {A} old new name file read_in (Err stops.NoMemory) (Err end) stopped front given = record { front = front; whole = λ other. absurd (other (sym (ends-by file read_in stops.NoMemory end stopped (given other)))) }

-- ---- what can't be loaded

-- what was loaded and then read is no file that can't be loaded
pub not-missing : {A : Type 0} (P : Type 0) (read : Result A RunEnd) → IfErr read (λ end. is_unloaded end ≡ false) → IfErr read (λ end. is_unloaded end ≡ true → P)
not-missing P (Ok what) loaded = tt
not-missing P (Err end) loaded = λ missing. let bad : true ≡ false = sym missing ∙ loaded in cc

-- a run that ends so was answered so
pub missing-stop : (file : WordFile) (stop : FileStop) {end : RunEnd} → end ≡ end_by file stop → is_unloaded end ≡ true → ◌≡◌ {A = Result (List ℕ) FileStop} (Err stop) (Err stops.CannotLoad)
missing-stop file stops.CannotLoad is missing = refl
missing-stop file (stops.Bad at) is missing = let bad : true ≡ false = sym missing ∙ ap is_unloaded is in cc
missing-stop file stops.NoMemory is missing = let bad : true ≡ false = sym missing ∙ ap is_unloaded is in cc

-- then the count rose
pub missing-loaded : {A P : Type 0} (read : Result A RunEnd) (loaded : Result (List ℕ) FileStop)
    → IfErr read (λ end. is_unloaded end ≡ true → loaded ≡ Err stops.CannotLoad) → (loaded ≡ Err stops.CannotLoad → P) → IfErr read (λ end. is_unloaded end ≡ true → P)
missing-loaded (Ok what) loaded was told = tt
missing-loaded (Err end) loaded was told = λ missing. told (was missing)
