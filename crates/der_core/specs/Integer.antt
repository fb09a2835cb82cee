-- INTEGER, ITU-T X.690 section 8.3: two's complement in the fewest octets.
use Rattle.std.specs.Prelude.{ℕ, ◌/◌, ◌%◌, ◌^◌, Bool, false, not, ◌==◌, ◌&&◌}
use Rattle.std.specs.Prelude.{◌||◌, nat_lt, nat_le, if◌then◌else◌, List, [], ◌∷◌, length, ℤ, pos}
use Rattle.std.specs.Prelude.{negsuc, Result, Ok}
use Rattle.der_core.specs.declared.refusal.DerRefusal.{DerRefusal}
use Rattle.der_core.specs.declared.refusal.DerWhy.TheVariants.{NotShortest, Value}
use Rattle.der_core.specs.Format.{Input, Format, Content, place, refused, ◌>>=◌}
use Rattle.der_numbers.specs.Number.{natural_of, flipped, is_negative}
use Rattle.der_core.specs.Element.{element}

-- the octets of a number below 2^39, none of them superfluous; the first is below 128
unfoldable pub least : ℕ → List ℕ
least n =
    if nat_lt n 128 then n ∷ [] else
    if nat_lt n 32768 then (n / 256) ∷ (n % 256) ∷ [] else
    if nat_lt n 8388608 then (n / 65536) ∷ (n / 256 % 256) ∷ (n % 256) ∷ [] else
    if nat_lt n 2147483648
    then (n / 16777216) ∷ (n / 65536 % 256) ∷ (n / 256 % 256) ∷ (n % 256) ∷ [] else
    (n / 4294967296) ∷ (n / 16777216 % 256) ∷ (n / 65536 % 256) ∷ (n / 256 % 256) ∷ (n % 256) ∷ []

-- the octets of -1 - n are those of n with their bits turned over
abbrev pub signed_octets : ℤ → List ℕ
signed_octets (pos n) = least n
signed_octets (negsuc n) = flipped (least n)

-- the number that octets spell
abbrev pub signed_of : List ℕ → ℤ
signed_of octets =
    if is_negative octets then negsuc (natural_of (flipped octets)) else pos (natural_of octets)

-- whether the first octet only repeats the sign of the second
abbrev pub has_spare_octet : List ℕ → Bool
has_spare_octet [] = false
has_spare_octet (a ∷ []) = false
has_spare_octet (a ∷ b ∷ os) = ((a == 0) && nat_lt b 128) || ((a == 255) && nat_le 128 b)

-- the content of an INTEGER: an octet at least, and none superfluous
abbrev pub shortest_of : Input → List ℕ → Result (List ℕ) DerRefusal
shortest_of i [] = refused Value (place i)
shortest_of i (o ∷ os) =
    if has_spare_octet (o ∷ os) then refused NotShortest (place i) else Ok (o ∷ os)

-- the same of all that an input has
unfoldable pub shortest_at : Input → Result (List ℕ) DerRefusal
shortest_at i = shortest_of i i.octets

-- from -2^31 to 2^31 - 1
abbrev pub is_int32 : ℤ → Bool
is_int32 (pos n) = nat_lt n (2 ^ 31)
is_int32 (negsuc n) = nat_lt n (2 ^ 31)

-- those are the numbers of at most four octets
unfoldable pub int32_at : Input → Result ℤ DerRefusal
int32_at i = do
  octets ← shortest_at i
  if nat_le (length octets) 4 then Ok (signed_of octets) else refused Value (place i)

-- the content of an INTEGER from -2^31 to 2^31 - 1
abbrev pub int32_content : Content ℤ
int32_content = record { read = int32_at; spell = signed_octets; fits = is_int32 }

-- INTEGER from -2^31 to 2^31 - 1
unfoldable pub int32 : Format ℤ
int32 = element 2 int32_content

-- whether at most five octets spell a number from low to high
abbrev pub is_natural : ℕ → ℕ → List ℕ → Bool
is_natural low high octets =
    nat_le (length octets) 5 && (not (is_negative octets)
    && (nat_le low (natural_of octets) && nat_le (natural_of octets) high))

-- the number from low to high that all the octets of an input spell
unfoldable pub natural_at : ℕ → ℕ → Input → Result ℕ DerRefusal
natural_at low high i = do
  octets ← shortest_at i
  if is_natural low high octets then Ok (natural_of octets) else refused Value (place i)

-- a number from low to high, where high is below 2^39
abbrev pub natural_content : ℕ → ℕ → Content ℕ
natural_content low high =
    record { read = natural_at low high; spell = least; fits = λ n. nat_le low n && nat_le n high }

-- INTEGER from low to high, where high is below 2^39
unfoldable pub natural : ℕ → ℕ → Format ℕ
natural low high = element 2 (natural_content low high)

-- from 0 to 2^32 - 1
abbrev pub uint32 : Format ℕ
uint32 = natural 0 4294967295
