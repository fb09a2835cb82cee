-- Decimal numbers without leading zeros.
use Rattle.std.specs.Prelude.{◌≡◌, ℕ, ◌+◌, ◌-◌, ◌*◌, ◌≤◌, Bool, true, false, ◌==◌, List, [], ◌∷◌}
use Rattle.std.specs.Prelude.{length, Option, Some, None, if◌then◌else◌}
use Rattle.std.specs.List.{list_all}
use Rattle.scram_mech.specs.declared.digits.Digits.{Digits}
use Rattle.scram_mech.specs.declared.digits.Digits.TheVariants.{First, Zero, More}
use Rattle.scram_mech.specs.Signs.{is_digit}

-- what is due behind a digit, none if it can't stand here
abbrev pub digit_step : Digits → ℕ → Option Digits
digit_step First octet = if octet == 48 then Some Zero else Some (More 9)
digit_step Zero octet = None
digit_step (More left) octet = if left == 0 then None else Some (More (left - 1))

-- a first 0 is the whole number; no number has more than ten digits
abbrev pub digits_step : Digits → ℕ → Option Digits
digits_step due octet = if is_digit octet then digit_step due octet else None

-- the number may end here: it has a digit
abbrev pub digits_end : Digits → Bool
digits_end First = false
digits_end Zero = true
digits_end (More left) = true

-- the number that digits spell behind those of another number
abbrev pub number_behind : ℕ → List ℕ → ℕ
number_behind number [] = number
number_behind number (digit ∷ digits) = number_behind (number * 10 + (digit - 48)) digits

-- the number that digits spell
unfoldable pub number_of : List ℕ → ℕ
number_of digits = number_behind 0 digits

-- at most ten digits
pub record AreDigits (octets : List ℕ) : Type 0 where
  pub each : list_all is_digit octets ≡ true
  pub few : length octets ≤ 10
