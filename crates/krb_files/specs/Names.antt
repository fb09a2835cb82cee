-- Principals in both files.
use Rattle.std.specs.Prelude.{ℕ, zero, suc, Bool, true, ◌&&◌, if◌then◌else◌, List, [], ◌∷◌, Result}
use Rattle.std.specs.Prelude.{Ok, Err}
use Rattle.std.specs.Str.{is_utf8}
use Rattle.gss_base.specs.Name.{Name}
use Rattle.gss_base.specs.Principal.{name_of}
use Rattle.gss_base.specs.declared.principal.NameRefusal.{NameRefusal}
use Rattle.krb_files.specs.declared.refusal.FileRefusal.{FileRefusal}
use Rattle.krb_files.specs.declared.refusal.FileWhy.TheVariants as whys
use Rattle.krb_files.specs.Fields.{Input, refusal, ◌>>=◌, number_at, counted_at}

-- each is UTF-8
abbrev pub are_texts : List (List ℕ) → Bool
are_texts [] = true
are_texts (part ∷ parts) = is_utf8 part && are_texts parts

-- the texts, unless one isn't UTF-8
abbrev pub texts_of : ℕ → List (List ℕ) → Result (List (List ℕ)) FileRefusal
texts_of at parts = if are_texts parts then Ok parts else Err (refusal whys.Name at)

-- the principal, or its refusal at a place
abbrev pub name_or : ℕ → Result Name NameRefusal → Result Name FileRefusal
name_or at (Ok name) = Ok name
name_or at (Err why) = Err (refusal whys.Name at)

-- the principal of this realm and these parts, refused at a place where there is none
unfoldable pub named_at : ℕ → List ℕ → List (List ℕ) → Result Name FileRefusal
named_at at realm parts =
    if is_utf8 realm && are_texts parts then name_or at (name_of realm parts)
    else Err (refusal whys.Name at)

-- so many components, each behind a number of so many octets that counts its octets
unfoldable pub parts_at : ℕ → ℕ → Input → Result (List (List ℕ) × Input) FileRefusal
parts_at size zero i = Ok ([], i)
parts_at size (suc count) i = do
  part ← counted_at size i
  parts ← parts_at size count part.1
  Ok (part.0 ∷ parts.0, parts.1)

-- the principal that begins at a place, from its count of components on: that count, the realm, the
-- components
unfoldable pub principal_at : ℕ → ℕ → Input → Result (Name × Input) FileRefusal
principal_at size at i = do
  count ← number_at size i
  realm ← counted_at size count.1
  parts ← parts_at size count.0 realm.1
  name ← named_at at realm.0 parts.0
  Ok (name, parts.1)
