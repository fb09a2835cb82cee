-- The initiator's final text, RFC 5802 section 7: `c=BINDING,r=NONCE`, further parts and
-- `,p=PROOF`.
use Rattle.std.specs.Prelude.{ℕ, ◌-◌, List, [], ◌∷◌, ◌++◌, codes, length, take, Some, Result, Ok}
use Rattle.scram_mech.specs.declared.refusal.ScramRefusal.{ScramRefusal}
use Rattle.scram_mech.specs.declared.run.Class.TheVariants.{Nonce}
use Rattle.scram_mech.specs.Reading.{◌>>=◌}
use Rattle.scram_mech.specs.Base64.{encoded, decoded}
use Rattle.scram_mech.specs.State.{some, base64, further_parts}
use Rattle.scram_mech.specs.Formats.{Segment, Word, Value, End, piece, values_of}

-- the further parts go up to the letter `p`
unfoldable pub third_format : List Segment
third_format =
    Word (codes "c=") ∷ Value (base64 0 32768) ∷ Word (codes ",r=") ∷ Value (some Nonce 256)
    ∷ Value (further_parts (Some 112)) ∷ Word (codes "=")
    ∷ Value (base64 20 20) ∷ End ∷ []

-- `bare` is the text without `,p=PROOF`
pub record Third : Type 0 where
  pub binding : List ℕ
  pub nonce : List ℕ
  pub proof : List ℕ
  pub bare : List ℕ

-- what a third text has; `,p=` and a proof are 31 octets
unfoldable pub third_of : List ℕ → Result Third ScramRefusal
third_of text = do
  values ← values_of third_format text
  Ok (record {
    binding = decoded (piece values 0);
    nonce = piece values 1;
    proof =
        decoded (piece values 3);
    bare = take (length text - 31) text;
  })

-- the third text of binding data and a nonce, without its proof, and with it
unfoldable pub bare_text : List ℕ → List ℕ → List ℕ
bare_text binding nonce = codes "c=" ++ encoded binding ++ codes ",r=" ++ nonce

-- the third text with its proof, by the text without it
unfoldable pub with_proof : List ℕ → List ℕ → List ℕ
with_proof bare proof = bare ++ codes ",p=" ++ encoded proof
