-- Named contents.
use Rattle.std.specs.Prelude.{◌≡◌, ℕ, ◌<◌, ◌≤◌, List, [], ◌∷◌, ◌++◌, length, take, Option, Some}
use Rattle.std.specs.Prelude.{None, Result, Ok, Err, if◌then◌else◌, nat_eq}
use lib.Pointwise.{pointwise}
use Rattle.sec_base.specs.declared.shelf.NamedFile.{NamedFile}
use Rattle.sec_base.specs.declared.shelf.LoadRefusal.{LoadRefusal}
use Rattle.sec_base.specs.declared.shelf.LoadRefusal.TheVariants.{Fault, TooLong, NoMemory}

-- the contents of the first file of this name
abbrev pub content_of : List NamedFile → List ℕ → Option (List ℕ)
content_of [] name = None
content_of (file ∷ files) name =
    if pointwise nat_eq file.name name then Some file.content else content_of files name

-- the contents were given where they are within the limit, and refused as too long where they are
-- not; a fault and want of memory may come at any name
abbrev pub Loads : List NamedFile → List ℕ → ℕ → Result (List ℕ) LoadRefusal → Type 0
Loads files name limit (Ok octets) = (content_of files name ≡ Some octets) × (length octets ≤ limit)
Loads files name limit (Err TooLong) = (octets : List ℕ) × (content_of files name ≡ Some octets)
    × (limit < length octets)
Loads files name limit (Err Fault) = Unit {0}
Loads files name limit (Err NoMemory) = Unit {0}

-- the name was put at the end of those that were asked; want of memory may leave it out
abbrev pub Asks : List (List ℕ) → List (List ℕ) → List ℕ → Result (List ℕ) LoadRefusal → Type 0
Asks old new name (Ok octets) = new ≡ old ++ name ∷ []
Asks old new name (Err TooLong) = new ≡ old ++ name ∷ []
Asks old new name (Err Fault) = new ≡ old ++ name ∷ []
Asks old new name (Err NoMemory) = (count : ℕ) × (new ≡ old ++ take count (name ∷ []))

-- these contents were copied where they are within the limit, and refused as too long where they
-- are not
abbrev pub Copies : List ℕ → ℕ → Result (List ℕ) LoadRefusal → Type 0
Copies content limit (Ok octets) = (octets ≡ content) × (length octets ≤ limit)
Copies content limit (Err TooLong) = limit < length content
Copies content limit (Err Fault) = ⊥
Copies content limit (Err NoMemory) = Unit {0}
