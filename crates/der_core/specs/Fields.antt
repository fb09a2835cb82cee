-- The fields of a SEQUENCE, one behind the other, and its entries.
use Rattle.std.specs.Prelude.{◌≡◌, ℕ, zero, suc, Bool, true, ◌&&◌, if◌then◌else◌, List, [], ◌∷◌}
use Rattle.std.specs.Prelude.{◌++◌, length, Option, Some, None, Result, Ok}
use Rattle.der_core.specs.declared.refusal.DerRefusal.{DerRefusal}
use Rattle.der_core.specs.Format.{Input, Format, Content, begins, ◌>>=◌}
use Rattle.der_core.specs.Header.{end_at}
use Rattle.der_core.specs.Element.{element}

-- no further field
abbrev pub done : Content (Unit {0})
done = record { read = end_at; spell = λ nothing. []; fits = λ nothing. true }

-- a field, and the fields behind it, which may hang on its value
abbrev pub with_known : {A B : Type 0} → Format A → (A → Content B) → Content (A × B)
with_known format fields = record {
  read = λ i. do
    x ← format.read i
    others ← (fields x.0).read x.1
    Ok (x.0, others);
  spell = λ v. format.spell v.0 ++ (fields v.0).spell v.1;
  fits = λ v. format.fits v.0 && (fields v.0).fits v.1;
}

-- a field, and the fields behind it
abbrev pub with_field : {A B : Type 0} → Format A → Content B → Content (A × B)
with_field format fields = with_known format (λ v. fields)

-- a field that may be left out, known by its tag
abbrev pub optional_at : {A : Type 0} → ℕ → Format A → Input → Result (Option A × Input) DerRefusal
optional_at tag format i =
    if begins tag i.octets then (do
      x ← format.read i
      Ok (Some x.0, x.1))
    else Ok (None, i)

-- a field that may be left out as it is spelled: no octets if it is left out
abbrev pub optional_spelling : {A : Type 0} → Format A → Option A → List ℕ
optional_spelling format None = []
optional_spelling format (Some v) = format.spell v

-- the format has the field's value, if there is one
abbrev pub optional_fits : {A : Type 0} → Format A → Option A → Bool
optional_fits format None = true
optional_fits format (Some v) = format.fits v

-- a field that may be left out, and the fields behind it, which may hang on its value
abbrev pub with_optional_known : {A B : Type 0} → ℕ → Format A → (Option A → Content B)
    → Content (Option A × B)
with_optional_known tag format fields = record {
  read = λ i. do
    x ← optional_at tag format i
    others ← (fields x.0).read x.1
    Ok (x.0, others);
  spell = λ v. optional_spelling format v.0 ++ (fields v.0).spell v.1;
  fits = λ v. optional_fits format v.0 && (fields v.0).fits v.1;
}

-- a field that may be left out, and the fields behind it
abbrev pub with_optional : {A B : Type 0} → ℕ → Format A → Content B → Content (Option A × B)
with_optional tag format fields = with_optional_known tag format (λ v. fields)

-- the same values under another shape
abbrev pub seen : {A B : Type 0} → (A → B) → (B → A) → Content A → Content B
seen to from content = record {
  read = λ i. do
    v ← content.read i
    Ok (to v);
  spell = λ w. content.spell (from w);
  fits = λ w. content.fits (from w);
}

-- values one behind the other, to the end; no more than there are octets
abbrev pub many_step : {A : Type 0} → Format A → (Input → Result (List A) DerRefusal) → Input
    → List ℕ → Result (List A) DerRefusal
many_step format others i [] = Ok []
many_step format others i (o ∷ os) = do
  x ← format.read i
  rest ← others x.1
  Ok (x.0 ∷ rest)

-- the values up to the end of an input, of which there are at most so many
abbrev pub many_of : {A : Type 0} → Format A → ℕ → Input → Result (List A) DerRefusal
many_of format zero i = do
  nothing ← end_at i
  Ok []
many_of format (suc n) i = many_step format (many_of format n) i i.octets

-- the spellings of values one behind the other
abbrev pub many_spelling : {A : Type 0} → Format A → List A → List ℕ
many_spelling format [] = []
many_spelling format (v ∷ vs) = format.spell v ++ many_spelling format vs

-- the format has each of the values
abbrev pub many_fit : {A : Type 0} → Format A → List A → Bool
many_fit format [] = true
many_fit format (v ∷ vs) = format.fits v && many_fit format vs

-- values of a format one behind the other, up to the end
abbrev pub many : {A : Type 0} → Format A → Content (List A)
many format = record {
  read = λ i. many_of format (length i.octets) i;
  spell = many_spelling format;
  fits = many_fit format;
}

-- SEQUENCE OF
abbrev pub list_of : {A : Type 0} → Format A → Format (List A)
list_of format = element 0x30 (many format)

-- a value was added, where there is one
pub record PutsMaybe {A : Type 0} (format : Format A) (v : Option A) (old new : List ℕ) : Type 0
  where
    pub spells : new ≡ old ++ optional_spelling format v
    pub fits : optional_fits format v ≡ true
