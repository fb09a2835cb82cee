-- Numbers as words have them: decimal digits without a sign and without a leading zero.
use Rattle.std.specs.Prelude.{ℕ, ◌+◌, ◌*◌, ◌-◌, Bool, true, false, ◌&&◌, not, nat_eq, nat_le}
use Rattle.std.specs.Prelude.{nat_lt, List, [], ◌∷◌, length, Option, Some, None, if◌then◌else◌}

-- each is a decimal digit
abbrev pub are_digits : List ℕ → Bool
are_digits [] = true
are_digits (octet ∷ octets) =
    if nat_lt octet 48 then false else (if nat_lt 57 octet then false else are_digits octets)

-- one digit, or two to ten without a leading zero
abbrev pub is_numeral : List ℕ → Bool
is_numeral [] = false
is_numeral (first ∷ []) = are_digits (first ∷ [])
is_numeral (first ∷ second ∷ octets) = not (nat_eq first 48)
    && (nat_le (length (first ∷ second ∷ octets)) 10 && are_digits (first ∷ second ∷ octets))

-- the number that digits spell behind those of `number`
abbrev pub number_of : ℕ → List ℕ → ℕ
number_of number [] = number
number_of number (digit ∷ digits) = number_of (number * 10 + (digit - 48)) digits

-- the number if it is from `least` to `most`
abbrev pub within : ℕ → ℕ → ℕ → Option ℕ
within least most number = if nat_le least number && nat_le number most then Some number else None

-- the number of a text, where it is one from `least` to `most`
abbrev pub number_in : ℕ → ℕ → List ℕ → Option ℕ
number_in least most text = if is_numeral text then within least most (number_of 0 text) else None
