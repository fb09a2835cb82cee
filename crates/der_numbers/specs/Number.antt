-- Numbers as octets, most significant first.
use Rattle.std.specs.Prelude.{ℕ, ◌+◌, ◌-◌, ◌*◌, Bool, false, not, ◌==◌, ◌&&◌, nat_le, List, [], ◌∷◌}
use Rattle.std.specs.Prelude.{if◌then◌else◌, Option, Some, None}

-- the number that octets spell behind those of another number
abbrev pub natural_behind : ℕ → List ℕ → ℕ
natural_behind n [] = n
natural_behind n (o ∷ os) = natural_behind (n * 256 + o) os

-- the number that octets spell
abbrev pub natural_of : List ℕ → ℕ
natural_of [] = 0
natural_of (o ∷ os) = natural_behind o os

-- each octet with its bits turned over
abbrev pub flipped : List ℕ → List ℕ
flipped [] = []
flipped (o ∷ os) = (255 - o) ∷ flipped os

-- whether the first octet has its highest bit
abbrev pub is_negative : List ℕ → Bool
is_negative [] = false
is_negative (o ∷ os) = nat_le 128 o

-- whether the first octet is 0
abbrev pub has_leading_zero : List ℕ → Bool
has_leading_zero [] = false
has_leading_zero (o ∷ os) = o == 0

-- whether the octets of a long length are as few as can be: no leading 0, and no number that one
-- octet spells, ITU-T X.690 section 10.1
abbrev pub is_shortest_length : List ℕ → Bool
is_shortest_length octets = not (has_leading_zero octets) && nat_le 128 (natural_of octets)

-- the length that octets of the long form spell, none where they aren't as few as can be
abbrev pub long_length : List ℕ → Option ℕ
long_length octets = if is_shortest_length octets then Some (natural_of octets) else None
