-- The acceptor's first text, RFC 5802 section 7: `r=NONCE,s=SALT,i=ROUNDS` and further parts.
use Rattle.std.specs.Prelude.{ℕ, List, [], ◌∷◌, ◌++◌, codes, None, Result, Ok}
use Rattle.std.specs.Fmt.{decimal}
use Rattle.scram_mech.specs.declared.refusal.ScramRefusal.{ScramRefusal}
use Rattle.scram_mech.specs.declared.run.Class.TheVariants.{Nonce}
use Rattle.scram_mech.specs.Reading.{◌>>=◌}
use Rattle.scram_mech.specs.Base64.{encoded, decoded}
use Rattle.scram_mech.specs.Digits.{number_of}
use Rattle.scram_mech.specs.State.{some, base64, rounds_number, further_parts}
use Rattle.scram_mech.specs.Formats.{Segment, Word, Value, End, piece, values_of}

-- a nonce of at most 256 octets, a salt of 1 to 64 octets in base64, rounds, and further parts
unfoldable pub second_format : List Segment
second_format =
    Word (codes "r=") ∷ Value (some Nonce 256) ∷ Word (codes ",s=") ∷ Value (base64 1 64)
    ∷ Word (codes ",i=") ∷ Value rounds_number
    ∷ Value (further_parts None) ∷ End ∷ []

-- what a second text says: the whole nonce, the user's salt and the rounds
pub record Second : Type 0 where
  pub nonce : List ℕ
  pub salt : List ℕ
  pub rounds : ℕ

-- nonce, salt and rounds of a second text
unfoldable pub second_of : List ℕ → Result Second ScramRefusal
second_of text = do
  values ← values_of second_format text
  Ok (record {
    nonce = piece values 0;
    salt = decoded (piece values 1);
    rounds =
        number_of (piece values 2);
  })

-- the second text of a nonce, a salt and rounds
unfoldable pub second_text : List ℕ → List ℕ → ℕ → List ℕ
second_text nonce salt rounds =
    codes "r=" ++ nonce ++ codes ",s=" ++ encoded salt ++ codes ",i=" ++ decimal rounds
