-- Fields of both files, read from the front: numbers, most significant octet first, and octets
-- behind their count.
use Rattle.std.specs.Prelude.{◌≡◌, ◌≢◌, ℕ, ◌+◌, ◌-◌, ◌*◌, Bool, false, ◌==◌, ◌&&◌, nat_lt}
use Rattle.std.specs.Prelude.{if◌then◌else◌, List, [], ◌∷◌, length, take, drop, Result, Ok, Err}
use Rattle.krb_files.specs.declared.refusal.FileRefusal.{FileRefusal}
use Rattle.krb_files.specs.declared.refusal.FileWhy.{FileWhy}
use Rattle.krb_files.specs.declared.refusal.FileWhy.TheVariants.{Magic, Short, Length, NoMemory}
use Rattle.krb_files.specs.declared.fields.Bounds.{Bounds}
use Rattle.krb_files.specs.declared.fields.Bounds.TheVariants.{File, Record}

-- the octets that are left, the place behind the last of them, and whether a record or the file
-- ends there
pub record Input : Type 0 where
  pub end : ℕ
  pub octets : List ℕ
  pub bounds : Bounds

-- the place of the next octet
abbrev pub place : Input → ℕ
place i = i.end - length i.octets

-- the refusal for a reason at a place
abbrev pub refusal : FileWhy → ℕ → FileRefusal
refusal why at = record { at = at; why = why }

-- what is answered where the field that begins here isn't whole: the field passes its record, or
-- the file ends inside it
abbrev pub cut_by : Bounds → Input → FileRefusal
cut_by File i = refusal Short i.end
cut_by Record i = refusal Length (place i)

-- the refusal of a field that begins here and isn't whole
abbrev pub cut : Input → FileRefusal
cut i = cut_by i.bounds i

-- what stands behind so many octets
abbrev pub behind : ℕ → Input → Input
behind size i = record { end = i.end; octets = drop size i.octets; bounds = i.bounds }

-- the rest of a reading, unless the part before was refused
infixl 10 ◌>>=◌
abbrev pub ◌>>=◌ : {A B : Type 0} → Result A FileRefusal → (A → Result B FileRefusal)
    → Result B FileRefusal
(Ok x) >>= next = next x
(Err e) >>= next = Err e

-- whether the octets begin with 05 and this octet
abbrev pub is_headed : ℕ → List ℕ → Bool
is_headed version [] = false
is_headed version (a ∷ []) = false
is_headed version (a ∷ b ∷ octets) = (a == 5) && (b == version)

-- the number that octets spell behind those of another number
abbrev pub number_behind : ℕ → List ℕ → ℕ
number_behind number [] = number
number_behind number (octet ∷ octets) = number_behind (number * 256 + octet) octets

-- the number that octets spell
abbrev pub number_of : List ℕ → ℕ
number_of [] = 0
number_of (octet ∷ octets) = number_behind octet octets

-- so many octets of the field that begins at `field`
unfoldable pub octets_at : Input → ℕ → Input → Result (List ℕ × Input) FileRefusal
octets_at field size i = if nat_lt (length i.octets) size then Err (cut field)
    else Ok (take size i.octets, behind size i)

-- a number of so many octets
unfoldable pub number_at : ℕ → Input → Result (ℕ × Input) FileRefusal
number_at size i = do
  octets ← octets_at i size i
  Ok (number_of octets.0, octets.1)

-- octets behind a number of so many octets that counts them
unfoldable pub counted_at : ℕ → Input → Result (List ℕ × Input) FileRefusal
counted_at size i = do
  count ← number_at size i
  octets_at i count.0 count.1

-- a record of so many octets
unfoldable pub record_at : ℕ → Input → Result (Input × Input) FileRefusal
record_at size i = do
  octets ← octets_at i size i
  Ok (record { end = place octets.1; octets = octets.0; bounds = Record }, octets.1)

-- so many octets passed over
unfoldable pub passed_at : ℕ → Input → Result (Unit {0} × Input) FileRefusal
passed_at size i = do
  octets ← octets_at i size i
  Ok (tt, octets.1)

-- what stands behind the two octets of a format: 05 and its version
unfoldable pub magic_at : ℕ → List ℕ → Result Input FileRefusal
magic_at version octets =
    if is_headed version octets
    then Ok (record { end = length octets; octets = drop 2 octets; bounds = File })
    else Err (refusal Magic 0)

-- the answer of a reading at the front, and what it leaves, want of memory aside
abbrev pub Reads : {A B : Type 0} → (A → B) → Input → Result A FileRefusal
    → Result (B × Input) FileRefusal → Type 0
Reads view left (Ok x) read = read ≡ Ok (view x, left)
Reads view left (Err e) read = e.why ≢ NoMemory → read ≡ Err e

-- the answer of a reading, want of memory aside
abbrev pub Answers : {A B : Type 0} → (A → B) → Result A FileRefusal → Result B FileRefusal → Type 0
Answers view (Ok x) read = read ≡ Ok (view x)
Answers view (Err e) read = e.why ≢ NoMemory → read ≡ Err e
