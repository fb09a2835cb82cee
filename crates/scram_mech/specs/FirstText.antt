-- The initiator's first text, RFC 5802 section 7: `n=NAME,r=NONCE` and further parts.
use Rattle.std.specs.Prelude.{ℕ, List, [], ◌∷◌, ◌++◌, codes, None, Result, Ok}
use Rattle.scram_mech.specs.declared.refusal.ScramRefusal.{ScramRefusal}
use Rattle.scram_mech.specs.declared.run.Class.TheVariants.{Nonce}
use Rattle.scram_mech.specs.declared.name.Escape.TheVariants.{Outside}
use Rattle.scram_mech.specs.Reading.{◌>>=◌}
use Rattle.scram_mech.specs.Name.{escaped, unescaped}
use Rattle.scram_mech.specs.State.{some, a_name, further_parts}
use Rattle.scram_mech.specs.Formats.{Segment, Word, Value, End, piece, values_of}

-- a nonce of at most 232 octets, so that the acceptor's 24 have room behind it in 256
unfoldable pub first_format : List Segment
first_format = Word (codes "n=") ∷ Value a_name ∷ Word (codes ",r=") ∷ Value (some Nonce 232)
    ∷ Value (further_parts None) ∷ End ∷ []

-- what a first text says: the user's name without its escapes, and the initiator's nonce
pub record First : Type 0 where
  pub name : List ℕ
  pub nonce : List ℕ

-- the name and the nonce of a first text
unfoldable pub first_of : List ℕ → Result First ScramRefusal
first_of text = do
  values ← values_of first_format text
  Ok (record { name = unescaped Outside (piece values 0); nonce = piece values 1 })

-- the first text of a name and a nonce
unfoldable pub first_text : List ℕ → List ℕ → List ℕ
first_text name nonce = codes "n=" ++ escaped name ++ codes ",r=" ++ nonce
