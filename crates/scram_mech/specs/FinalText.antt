-- The acceptor's final text, RFC 5802 section 7: `v=SIGNATURE` or `e=VALUE`, and further parts.
use Rattle.std.specs.Prelude.{ℕ, Bool, false, ◌==◌, List, [], ◌∷◌, ◌++◌, codes, None, Result, Ok}
use Rattle.std.specs.Prelude.{Err, if◌then◌else◌}
use Rattle.scram_mech.specs.declared.refusal.ScramRefusal.{ScramRefusal}
use Rattle.scram_mech.specs.declared.refusal.ScramRefusal.TheVariants as refusals
use Rattle.scram_mech.specs.Reading.{◌>>=◌}
use Rattle.scram_mech.specs.Base64.{encoded, decoded}
use Rattle.scram_mech.specs.State.{base64, further_parts, value_and_further}
use Rattle.scram_mech.specs.Formats.{Segment, Word, Value, End, piece, values_of}

-- `v=SIGNATURE`, 20 octets in base64, and further parts
unfoldable pub signature_format : List Segment
signature_format = Word (codes "v=") ∷ Value (base64 20 20) ∷ Value (further_parts None) ∷ End ∷ []

-- `e=VALUE` and further parts
unfoldable pub error_format : List Segment
error_format = Word (codes "e=") ∷ Value value_and_further ∷ End ∷ []

-- the text begins with the letter `e`
abbrev pub begins_as_error : List ℕ → Bool
begins_as_error [] = false
begins_as_error (octet ∷ octets) = octet == 101

-- the signature of a final text; a text of an error is refused as such
unfoldable pub final_of : List ℕ → Result (List ℕ) ScramRefusal
final_of text =
    if begins_as_error text then (do
      values ← values_of error_format text
      Err refusals.PeerError)
    else (do
      values ← values_of signature_format text
      Ok (decoded (piece values 0)))

-- the final text of a signature
unfoldable pub final_text : List ℕ → List ℕ
final_text signature = codes "v=" ++ encoded signature
