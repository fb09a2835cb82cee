-- What stands one behind the other up to the end.
use Rattle.std.specs.Prelude.{ℕ, zero, suc, List, [], ◌∷◌, length, Result, Ok}
use Rattle.krb_files.specs.declared.refusal.FileRefusal.{FileRefusal}
use Rattle.krb_files.specs.declared.pieces.Next.{Next}
use Rattle.krb_files.specs.declared.pieces.Next.TheVariants.{End, Other, Item}
use Rattle.krb_files.specs.Fields.{Input, ◌>>=◌}

-- the values from this piece on: the end stops them, and what isn't kept adds none
abbrev pub many_by : {A : Type 0} → (Input → Result (List A) FileRefusal) → Next A → Input
    → Result (List A) FileRefusal
many_by others End i = Ok []
many_by others Other i = others i
many_by others (Item value) i = do
  values ← others i
  Ok (value ∷ values)

-- the values among at most so many pieces
unfoldable pub many_of : {A : Type 0} → (Input → Result (Next A × Input) FileRefusal) → ℕ → Input
    → Result (List A) FileRefusal
many_of step zero i = Ok []
many_of step (suc n) i = do
  next ← step i
  many_by (many_of step n) next.0 next.1

-- the values among the pieces up to the end: each takes an octet at least
abbrev pub all_of : {A : Type 0} → (Input → Result (Next A × Input) FileRefusal) → Input
    → Result (List A) FileRefusal
all_of step i = many_of step (length i.octets) i
