-- The files that words name.
use Rattle.std.specs.Prelude.{◌≡◌, ◌≤◌, ℕ, Bool, IsTrue, List, [], ◌∷◌, ◌++◌, length, take, codes}
use Rattle.std.specs.Prelude.{Option, Some, None, Result, Ok, Err, if◌then◌else◌, nat_le}
use Rattle.std.specs.Fmt.{decimal}
use Rattle.sec_base.specs.Answers.{Gives, Rose}
use Rattle.sec_base.specs.Shelf.{content_of}
use Rattle.sec_base.specs.declared.shelf.NamedFile.{NamedFile}
use Rattle.krb_files.specs.declared.refusal.FileRefusal.{FileRefusal}
use Rattle.krb_files.specs.declared.refusal.FileWhy.{FileWhy}
use Rattle.krb_files.specs.declared.refusal.FileWhy.TheVariants as whys
use Rattle.cli_base.specs.Lines.{memory_line}
use Rattle.cli_base.specs.declared.files.FileStop.{FileStop}
use Rattle.cli_base.specs.declared.files.FileStop.TheVariants.{CannotLoad, Bad, NoMemory}

-- the most octets of a file
abbrev pub most : ℕ
most = 1048576

-- the octets of a file, refused if it isn't there, and bad at the limit if it is longer
abbrev pub file_within : Option (List ℕ) → Result (List ℕ) FileStop
file_within None = Err CannotLoad
file_within (Some octets) = if nat_le (length octets) most then Ok octets else Err (Bad most)

-- the octets of the first file of this name; it can't be loaded where there is none, and is bad at
-- the limit where it is longer
abbrev pub file_in : List NamedFile → List ℕ → Result (List ℕ) FileStop
file_in files name = file_within (content_of files name)

-- what `load` answers, by what the shelf has: a fault and want of memory may come at any name
abbrev pub LoadsFile : Result (List ℕ) FileStop → Result (List ℕ) FileStop → Type 0
LoadsFile due (Ok octets) = due ≡ Ok octets
LoadsFile due (Err (Bad at)) = due ≡ Err (Bad at)
LoadsFile due (Err CannotLoad) = Unit {0}
LoadsFile due (Err NoMemory) = Unit {0}

-- the name was put at the end of those that were asked; want of memory may leave it out
abbrev pub AsksFile : List (List ℕ) → List (List ℕ) → List ℕ → Result (List ℕ) FileStop → Type 0
AsksFile old new name (Ok octets) = new ≡ old ++ name ∷ []
AsksFile old new name (Err (Bad at)) = new ≡ old ++ name ∷ []
AsksFile old new name (Err CannotLoad) = new ≡ old ++ name ∷ []
AsksFile old new name (Err NoMemory) = (count : ℕ) × (new ≡ old ++ take count (name ∷ []))

-- what a shelf showed before and after it was asked for a file, and what it answered
pub record Loaded (tells : Bool) (files : List NamedFile) (before after : List (List ℕ))
    (faults faults' : ℕ) (file : List ℕ) (answer : Result (List ℕ) FileStop) : Type 0 where
  pub content : IsTrue tells → LoadsFile (file_in files file) answer
  pub asked : IsTrue tells → AsksFile before after file answer
  pub fault : answer ≡ Err CannotLoad → Rose faults faults'
  pub grows : faults ≤ faults'

-- the shelf was asked for the file, and this was read in its answer; `free` stands for want of
-- memory
pub record FromShelf {A E : Type 0} (free : E) (tells : Bool)
    (files : List NamedFile) (before after : List (List ℕ)) (faults faults' : ℕ) (file : List ℕ)
    (read_in : Result (List ℕ) FileStop → Result A E) (read : Result A E) : Type 0 where
  pub answer : Result (List ℕ) FileStop
  pub loaded : Loaded tells files before after faults faults' file answer
  pub given : Gives free (λ a. a) read (read_in answer)

-- a file that was read and refused is bad at the place, but for want of memory
abbrev pub stop_for : FileWhy → ℕ → FileStop
stop_for whys.Magic at = Bad at
stop_for whys.Short at = Bad at
stop_for whys.Length at = Bad at
stop_for whys.Name at = Bad at
stop_for whys.NoMemory at = NoMemory

-- a refused file is bad at the refusal's place
abbrev pub stop_by : FileRefusal → FileStop
stop_by refusal = stop_for refusal.why refusal.at

-- the status with which such a stop ends a program
abbrev pub stop_status : FileStop → ℕ
stop_status CannotLoad = 3
stop_status (Bad at) = 4
stop_status NoMemory = 8

-- `cannot load NAME`, `bad NAME at N`
abbrev pub stop_line : List ℕ → FileStop → List ℕ
stop_line name CannotLoad = codes "cannot load " ++ (name ++ codes "\n")
stop_line name (Bad at) = codes "bad " ++ (name ++ (codes " at " ++ (decimal at ++ codes "\n")))
stop_line name NoMemory = memory_line
