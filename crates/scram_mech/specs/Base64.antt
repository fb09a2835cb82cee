-- Base64 with padding as a whole, RFC 4648 section 4, by the kit's definition.
use Rattle.std.specs.Prelude.{◌≡◌, ℕ, ◌+◌, ◌*◌, ◌/◌, ◌%◌, ◌==◌, ◌≤◌, List, [], ◌∷◌, ◌++◌, length}
use Rattle.std.specs.Prelude.{unwrap_or, if◌then◌else◌}
use Rattle.base64.specs.GeneralPurpose.{encode_of, IsBytes}
use Rattle.base64.specs.Engines.{standard}
use Rattle.scram_mech.specs.Signs.{sextet_of}

-- the signs of octets
unfoldable pub encoded : List ℕ → List ℕ
encoded octets = encode_of standard octets

-- the six bits of a sign
abbrev pub bits : ℕ → ℕ
bits sign = unwrap_or (sextet_of sign) 0

-- the octets of a group of four signs, of which the last, or the last two, may be `=`
abbrev pub group : ℕ → ℕ → ℕ → ℕ → List ℕ
group a b c d =
    if c == 61 then (bits a * 4 + bits b / 16) ∷ []
    else if d == 61 then (bits a * 4 + bits b / 16) ∷ (bits b % 16 * 16 + bits c / 4) ∷ []
    else (bits a * 4 + bits b / 16) ∷ (bits b % 16 * 16 + bits c / 4) ∷ (bits c % 4 * 64 + bits d)
    ∷ []

-- the octets that signs stand for
unfoldable pub decoded : List ℕ → List ℕ
decoded [] = []
decoded (a ∷ []) = []
decoded (a ∷ b ∷ []) = []
decoded (a ∷ b ∷ c ∷ []) = []
decoded (a ∷ b ∷ c ∷ d ∷ signs) = group a b c d ++ decoded signs

-- the signs are those of these octets
pub record IsBase64 (value signs : List ℕ) : Type 0 where
  pub same : signs ≡ encoded value
  pub octets : IsBytes value

-- so many octets
pub record InRange (least most : ℕ) (value : List ℕ) : Type 0 where
  pub enough : least ≤ length value
  pub few : length value ≤ most
