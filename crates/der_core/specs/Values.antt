-- Values of one element each.
use Rattle.std.specs.Prelude.{◌≡◌, ℕ, ◌/◌, ◌%◌, ◌^◌, Bool, true, false, not, ◌==◌, ◌&&◌}
use Rattle.std.specs.Prelude.{◌||◌, nat_lt, if◌then◌else◌, List, [], ◌∷◌, Option, Some, None}
use Rattle.std.specs.Prelude.{Result, Ok}
use Rattle.std.specs.Str.{is_utf8}
use Rattle.std.specs.Borrow.{Bor}
use Rattle.sec_base.specs.Oid.{is_oid}
use Rattle.der_core.specs.declared.refusal.DerRefusal.{DerRefusal}
use Rattle.der_core.specs.declared.refusal.DerWhy.TheVariants.{Value}
use Rattle.der_core.specs.Format.{Format, Content, place, refused, ◌>>=◌}
use Rattle.der_numbers.specs.Number.{natural_of}
use Rattle.der_core.specs.Element.{element, plain}

-- whether some octet is 00
abbrev pub has_zero : List ℕ → Bool
has_zero [] = false
has_zero (o ∷ os) = (o == 0) || has_zero os

-- text in UTF-8 without the character 0
unfoldable pub is_text : List ℕ → Bool
is_text octets = is_utf8 octets && not (has_zero octets)

-- GeneralString, ITU-T X.690 section 8.23
unfoldable pub text : Format (List ℕ)
text = element 0x1b (plain is_text)

-- OBJECT IDENTIFIER, ITU-T X.690 section 8.19
unfoldable pub object_identifier : Format (List ℕ)
object_identifier = element 6 (plain is_oid)

-- one octet below 128
abbrev pub small_of : ℕ → List ℕ → Result ℕ DerRefusal
small_of at [] = refused Value at
small_of at (o ∷ []) = if nat_lt o 128 then Ok o else refused Value at
small_of at (a ∷ b ∷ os) = refused Value at

-- the content of an ENUMERATED: one octet below 128
abbrev pub small_content : Content ℕ
small_content = record {
  read = λ i. small_of (place i) i.octets;
  spell = λ n. n ∷ [];
  fits =
      λ n. nat_lt n 128;
}

-- ENUMERATED, ITU-T X.690 section 8.4
unfoldable pub small : Format ℕ
small = element 0x0a small_content

-- no unused bits, and 32 bits, the first the most significant
abbrev pub flags_of : ℕ → List ℕ → Result ℕ DerRefusal
flags_of at (unused ∷ a ∷ b ∷ c ∷ d ∷ []) =
    if unused == 0 then Ok (natural_of (a ∷ b ∷ c ∷ d ∷ [])) else refused Value at
flags_of at octets = refused Value at

-- the content of a BIT STRING of 32 bits: no unused bits, and four octets
abbrev pub flags_octets : ℕ → List ℕ
flags_octets n = 0 ∷ (n / 16777216) ∷ (n / 65536 % 256) ∷ (n / 256 % 256) ∷ (n % 256) ∷ []

-- that content as a number below 2^32, whose most significant bit is the first
abbrev pub flags_content : Content ℕ
flags_content = record {
  read = λ i. flags_of (place i) i.octets;
  spell = flags_octets;
  fits =
      λ n. nat_lt n (2 ^ 32);
}

-- BIT STRING of 32 bits, ITU-T X.690 section 8.6
unfoldable pub flags : Format ℕ
flags = element 3 flags_content

-- the octets as a text, exactly where they are one
abbrev pub OfText : Bool → List ℕ → Option (Bor (List ℕ)) → Type 0
OfText is octets None = is ≡ false
OfText is octets (Some t) = (is ≡ true) × (t.now ≡ octets)
