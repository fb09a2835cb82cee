-- The content of an object identifier, ITU-T X.690 section 8.19: arcs in base 128, most significant
-- octet first, every octet of an arc but its last from 80 (hexadecimal) on, in the fewest octets.
use Rattle.std.specs.Prelude.{ℕ, Bool, true, ◌&&◌, not, nat_le, nat_lt, nat_eq, List, [], ◌∷◌}
use Rattle.std.specs.Prelude.{length}

-- whole arcs follow, where `begins` says that the next octet is the first of an arc; no arc begins
-- with 80
abbrev pub are_arcs : Bool → List ℕ → Bool
are_arcs begins [] = begins
are_arcs begins (octet ∷ octets) =
    not (begins && nat_eq octet 0x80) && are_arcs (nat_lt octet 0x80) octets

-- one arc at least, in at most 32 octets
abbrev pub is_oid : List ℕ → Bool
is_oid content = are_arcs true content && (nat_le 1 (length content) && nat_le (length content) 32)
