-- The seed of a drill: a decimal number of 64 bits, without a sign and without a leading zero.
use Rattle.std.specs.Prelude.{ℕ, Bool, false, ◌&&◌, not, nat_eq, nat_le, List, [], ◌∷◌, length}
use Rattle.std.specs.Prelude.{Option, Some, None, if◌then◌else◌}
use Rattle.cli_base.specs.Numbers.{are_digits, number_of}

-- one digit, or two to twenty without a leading zero
abbrev pub is_long : List ℕ → Bool
is_long [] = false
is_long (first ∷ []) = are_digits (first ∷ [])
is_long (first ∷ second ∷ octets) = not (nat_eq first 48)
    && (nat_le (length (first ∷ second ∷ octets)) 20 && are_digits (first ∷ second ∷ octets))

-- the seed of a text, where it is one
abbrev pub seed_in : List ℕ → Option ℕ
seed_in text =
    if is_long text
    then (if nat_le (number_of 0 text) 18446744073709551615 then Some (number_of 0 text) else None)
    else None
