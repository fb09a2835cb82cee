-- Tag, length and content of an element, ITU-T X.690 sections 8.1 and 10.1.
use Rattle.std.specs.Prelude.{ℕ, ◌+◌, ◌-◌, ◌/◌, ◌%◌, ◌==◌, ◌||◌, nat_lt, if◌then◌else◌, List, []}
use Rattle.std.specs.Prelude.{◌∷◌, ◌++◌, length, take, drop, Result, Ok}
use Rattle.der_core.specs.declared.refusal.DerRefusal.{DerRefusal}
use Rattle.der_core.specs.declared.refusal.DerWhy.TheVariants.{Short, Tag, Length, NotShortest}
use Rattle.der_core.specs.declared.refusal.DerWhy.TheVariants.{Trailing}
use Rattle.der_core.specs.Format.{Input, place, refused, ◌>>=◌}
use Rattle.der_numbers.specs.Number.{natural_of, is_shortest_length}

-- the one spelling of a length: one octet below 128, else how many octets it has, and those
unfoldable pub length_octets : ℕ → List ℕ
length_octets n =
    if nat_lt n 128 then n ∷ [] else
    if nat_lt n 256 then 129 ∷ n ∷ [] else
    if nat_lt n 65536 then 130 ∷ (n / 256) ∷ (n % 256) ∷ [] else
    if nat_lt n 16777216 then 131 ∷ (n / 65536) ∷ (n / 256 % 256) ∷ (n % 256) ∷ [] else
    132 ∷ (n / 16777216) ∷ (n / 65536 % 256) ∷ (n / 256 % 256) ∷ (n % 256) ∷ []

-- an element: its tag, its length, its content
unfoldable pub tlv : ℕ → List ℕ → List ℕ
tlv tag content = tag ∷ (length_octets (length content) ++ content)

-- a length of so many octets, whose first octet stood at a place
unfoldable pub long_length_at : ℕ → ℕ → Input → Result (ℕ × Input) DerRefusal
long_length_at at size i =
    if nat_lt (length i.octets) size then refused Short i.end else
    if is_shortest_length (take size i.octets)
    then Ok (natural_of (take size i.octets), record { end = i.end; octets = drop size i.octets })
    else refused NotShortest at

-- the length that begins with this octet
abbrev pub length_from : ℕ → ℕ → Input → Result (ℕ × Input) DerRefusal
length_from at first rest =
    if nat_lt first 128 then Ok (first, rest) else
    if (first == 128) || nat_lt 132 first then refused Length at else
    long_length_at at (first - 128) rest

-- the length at the front
abbrev pub length_of : Input → List ℕ → Result (ℕ × Input) DerRefusal
length_of i [] = refused Short i.end
length_of i (first ∷ rest) = length_from (place i) first (record { end = i.end; octets = rest })

-- the length at the front of an input
unfoldable pub length_at : Input → Result (ℕ × Input) DerRefusal
length_at i = length_of i i.octets

-- the length behind this tag
abbrev pub header_of : ℕ → Input → List ℕ → Result (ℕ × Input) DerRefusal
header_of tag i [] = refused Short i.end
header_of tag i (first ∷ rest) =
    if first == tag then length_at (record { end = i.end; octets = rest })
    else refused Tag (place i)

-- the length behind this tag, which is to stand at the front of an input
unfoldable pub header_at : ℕ → Input → Result (ℕ × Input) DerRefusal
header_at tag i = header_of tag i i.octets

-- the content of so many octets, and what stands behind it
abbrev pub content_at : ℕ → Input → Result (Input × Input) DerRefusal
content_at size i =
    if nat_lt (length i.octets) size then refused Short i.end else
    Ok (
      record { end = i.end - (length i.octets - size); octets = take size i.octets },
      record { end = i.end; octets = drop size i.octets },
    )

-- the content of the element with this tag at the front, and what stands behind it
unfoldable pub tlv_at : ℕ → Input → Result (Input × Input) DerRefusal
tlv_at tag i = do
  header ← header_at tag i
  content_at header.0 header.1

-- nothing is left
abbrev pub end_of : Input → List ℕ → Result (Unit {0}) DerRefusal
end_of i [] = Ok tt
end_of i (o ∷ os) = refused Trailing (place i)

-- nothing is left of an input
unfoldable pub end_at : Input → Result (Unit {0}) DerRefusal
end_at i = end_of i i.octets
