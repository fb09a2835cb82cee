-- What a reader has before it, and what a format of values is: how it is read, and how it is
-- spelled.
use Rattle.std.specs.Prelude.{◌≡◌, ◌≢◌, ℕ, ◌-◌, ◌<◌, Bool, true, false, ◌==◌}
use Rattle.std.specs.Prelude.{List, [], ◌∷◌, ◌++◌, length, Option, Some, None}
use Rattle.std.specs.Prelude.{Result, Ok, Err, IfOk, IsOkAnd, slice_index}
use Rattle.der_core.specs.declared.refusal.DerRefusal.{DerRefusal}
use Rattle.der_core.specs.declared.refusal.DerWhy.{DerWhy}
use Rattle.der_core.specs.declared.refusal.DerWhy.TheVariants.{NoMemory}

-- the octets that are left, and the place behind the last of them
pub record Input : Type 0 where
  pub end : ℕ
  pub octets : List ℕ

-- the whole of some octets
abbrev pub all_of : List ℕ → Input
all_of octets = record { end = length octets; octets = octets }

-- the place of the next octet
abbrev pub place : Input → ℕ
place i = i.end - length i.octets

-- the next octet, if there is one
abbrev pub first_octet : List ℕ → Option ℕ
first_octet [] = None
first_octet (o ∷ os) = Some o

-- whether the next octet is this one
abbrev pub begins : ℕ → List ℕ → Bool
begins tag [] = false
begins tag (o ∷ os) = o == tag

-- the refusal for a reason at a place
abbrev pub refused : {A : Type 0} → DerWhy → ℕ → Result A DerRefusal
refused why at = Err (record { at = at; why = why })

-- the rest of a reading, unless the part before was refused
infixl 10 ◌>>=◌
abbrev pub ◌>>=◌ : {A B : Type 0} → Result A DerRefusal → (A → Result B DerRefusal)
    → Result B DerRefusal
(Ok x) >>= next = next x
(Err e) >>= next = Err e

-- values that are read at the front of an input, with what stands behind them, and their one
-- spelling
pub record Format (A : Type 0) : Type 0 where
  pub read : Input → Result (A × Input) DerRefusal
  pub spell : A → List ℕ
  pub fits : A → Bool

-- values that are read from all that an input has, and their one spelling
pub record Content (A : Type 0) : Type 0 where
  pub read : Input → Result A DerRefusal
  pub spell : A → List ℕ
  pub fits : A → Bool

-- each is an octet
pub record AreOctets (octets : List ℕ) : Type 0 where
  pub each : (k : ℕ) → slice_index octets k < 256

-- the octets spell the value, which the format has
pub record Spells {A : Type 0} (format : Format A) (v : A) (octets : List ℕ) : Type 0 where
  pub has : format.fits v ≡ true
  pub same : octets ≡ format.spell v

-- the answer of a reading of all that there is
abbrev pub Answers : {A B : Type 0} → (A → B) → Result A DerRefusal → Result B DerRefusal → Type 0
Answers view (Ok x) read = read ≡ Ok (view x)
Answers view (Err e) read = read ≡ Err e

-- the answer of a reading at the front, and what it leaves
abbrev pub Reads : {A B : Type 0} → (A → B) → Input → Result A DerRefusal
    → Result (B × Input) DerRefusal → Type 0
Reads view left (Ok x) read = read ≡ Ok (view x, left)
Reads view left (Err e) read = read ≡ Err e

-- a value was taken from the front: a spelling of it stood there
pub record Took {A : Type 0} (format : Format A) (v : A) (old new : Input) : Type 0 where
  pub spelling : List ℕ
  pub spells : Spells format v spelling
  pub front : old.octets ≡ spelling ++ new.octets
  pub end : new.end ≡ old.end

-- a value is answered exactly where a spelling of it stands at the front, which is then taken
pub record ReadsSpellings {A B : Type 0} (view : A → B) (format : Format B) (old new : Input)
    (result : Result A DerRefusal) : Type 0 where
  pub found : IfOk result (λ x. Took format (view x) old new)
  pub only : (v : B) (spelling rest : List ℕ)
      → Spells format v spelling → old.octets ≡ spelling ++ rest
      → IsOkAnd result (λ x. view x ≡ v) × (new ≡ record { end = old.end; octets = rest })

-- the one spelling of a value that the format has was added
pub record Puts {A : Type 0} (format : Format A) (v : A) (old new : List ℕ) : Type 0 where
  pub spells : new ≡ old ++ format.spell v
  pub fits : format.fits v ≡ true

-- the spelling of a value of all that there is was added
pub record PutsAll {A : Type 0} (content : Content A) (v : A) (old new : List ℕ) : Type 0 where
  pub spells : new ≡ old ++ content.spell v
  pub fits : content.fits v ≡ true

-- the answer of a reading at the front, want of memory aside
abbrev pub MayRead : {A B : Type 0} → (A → B) → Input → Result A DerRefusal
    → Result (B × Input) DerRefusal → Type 0
MayRead view left (Ok x) read = read ≡ Ok (view x, left)
MayRead view left (Err e) read = e.why ≢ NoMemory → read ≡ Err e

-- the answer of a reading of all that there is, want of memory aside
abbrev pub MayAnswer : {A B : Type 0} → (A → B) → Result A DerRefusal → Result B DerRefusal → Type 0
MayAnswer view (Ok x) read = read ≡ Ok (view x)
MayAnswer view (Err e) read = e.why ≢ NoMemory → read ≡ Err e

-- octets that spell the value as a whole
pub record WritesWhole {A : Type 0} (content : Content A) (v : A) (octets : List ℕ) : Type 0 where
  pub spells : octets ≡ content.spell v
  pub fits : content.fits v ≡ true

-- a value is answered exactly where all the octets spell it
pub record SpelledWhole {A B : Type 0} (view : A → B) (content : Content B) (octets : List ℕ)
    (result : Result A DerRefusal) : Type 0 where
  pub found : IfOk result (λ x. WritesWhole content (view x) octets)
  pub only : (v : B) → WritesWhole content v octets → IsOkAnd result (λ x. view x ≡ v)
