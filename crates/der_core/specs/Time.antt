-- GeneralizedTime, ITU-T X.690 section 11.7 and RFC 4120 section 5.2.3: YYYYMMDDHHMMSSZ, on the
-- Gregorian calendar.
use Rattle.std.specs.Prelude.{ℕ, zero, suc, ◌+◌, ◌-◌, ◌*◌, ◌/◌, ◌%◌, Bool, true, false, ◌==◌, ◌&&◌}
use Rattle.std.specs.Prelude.{nat_lt, nat_le, if◌then◌else◌, List, [], ◌∷◌, ◌++◌, take, drop, pos}
use Rattle.std.specs.Prelude.{Ok}
use Rattle.jiff_core.specs.Calendar.{days_in_month, days_of_months, day_count}
use Rattle.der_core.specs.declared.refusal.DerWhy.TheVariants.{Value}
use Rattle.der_core.specs.Format.{Format, Content, place, refused}
use Rattle.der_core.specs.Element.{element}

-- the greatest number up to k at which f is at most x, or 0
unfoldable pub last : (ℕ → ℕ) → ℕ → ℕ → ℕ
last f zero x = 0
last f (suc k) x = if nat_le (f (suc k)) x then suc k else last f k x

-- the days from 1 January of the year -10000 to 1 January 1970
abbrev pub epoch : ℕ
epoch = 4371953

-- the days from 1 January 1970 to a date
abbrev pub day_number : ℕ → ℕ → ℕ → ℕ
day_number y m d = day_count (pos y) m d - epoch

-- whether the calendar has the date, from 1970 to 9999
unfoldable pub is_date : ℕ → ℕ → ℕ → Bool
is_date y m d = nat_le 1970 y && (nat_le y 9999
    && (nat_le 1 m && (nat_le m 12 && (nat_le 1 d && nat_le d (days_in_month (pos y) m)))))

-- the year of a day: the last whose 1 January isn't later
unfoldable pub year_of : ℕ → ℕ
year_of day = 1970 + last (λ n. day_count (pos (1970 + n)) 1 1) 8029 (day + epoch)

-- the days of its year that were before
unfoldable pub days_before : ℕ → ℕ
days_before day = day + epoch - day_count (pos (year_of day)) 1 1

-- its month: the last whose first isn't later
unfoldable pub month_of : ℕ → ℕ
month_of day = 1 + last (days_of_months (pos (year_of day))) 11 (days_before day)

-- its day of the month
unfoldable pub day_of : ℕ → ℕ
day_of day = 1 + (days_before day - days_of_months (pos (year_of day)) (month_of day - 1))

-- the seconds of 1970-01-01 to 9999-12-31: fewer than this
abbrev pub seconds_to_10000 : ℕ
seconds_to_10000 = 253402300800

-- seven numbers below 100: century, year in it, month, day, hour, minute, second
abbrev pub seconds_of : List ℕ → ℕ
seconds_of (c ∷ y ∷ m ∷ d ∷ h ∷ i ∷ s ∷ []) =
    day_number (c * 100 + y) m d * 86400 + (h * 3600 + (i * 60 + s))
seconds_of numbers = 0

-- whether seven such numbers are a date from 1970 to 9999 and a time of day
abbrev pub is_civil : List ℕ → Bool
is_civil (c ∷ y ∷ m ∷ d ∷ h ∷ i ∷ s ∷ []) =
    is_date (c * 100 + y) m d && (nat_lt h 24 && (nat_lt i 60 && nat_lt s 60))
is_civil numbers = false

-- those numbers of so many seconds since 1970
abbrev pub civil_of : ℕ → List ℕ
civil_of t =
    (year_of (t / 86400) / 100) ∷ (year_of (t / 86400) % 100) ∷ month_of (t / 86400)
    ∷ day_of (t / 86400) ∷
    (t % 86400 / 3600) ∷ (t % 3600 / 60) ∷ (t % 60) ∷ []

-- two digits each
abbrev pub digits : List ℕ → List ℕ
digits [] = []
digits (n ∷ ns) = (48 + n / 10) ∷ (48 + n % 10) ∷ digits ns

-- the numbers that pairs of digits spell
abbrev pub numbers : List ℕ → List ℕ
numbers [] = []
numbers (a ∷ []) = []
numbers (a ∷ b ∷ os) = ((a - 48) * 10 + (b - 48)) ∷ numbers os

-- whether each is a decimal digit
abbrev pub are_digits : List ℕ → Bool
are_digits [] = true
are_digits (o ∷ os) = nat_le 48 o && (nat_le o 57 && are_digits os)

-- the one octet Z
abbrev pub is_zulu : List ℕ → Bool
is_zulu [] = false
is_zulu (z ∷ []) = z == 90
is_zulu (y ∷ z ∷ os) = false

-- whether the octets are YYYYMMDDHHMMSSZ, with a date from 1970 to 9999 and a time of day
unfoldable pub is_time : List ℕ → Bool
is_time octets =
    are_digits (take 14 octets) && (is_zulu (drop 14 octets) && is_civil (numbers (take 14 octets)))

-- microseconds since 1970, whole seconds alone
abbrev pub time_content : Content ℕ
time_content = record {
  read = λ i. if is_time i.octets then Ok (seconds_of (numbers (take 14 i.octets)) * 1000000)
      else refused Value (place i);
  spell = λ t. digits (civil_of (t / 1000000)) ++ 90 ∷ [];
  fits = λ t. (t % 1000000 == 0) && nat_lt t (seconds_to_10000 * 1000000);
}

-- GeneralizedTime, as microseconds since 1970
unfoldable pub time : Format ℕ
time = element 0x18 time_content
