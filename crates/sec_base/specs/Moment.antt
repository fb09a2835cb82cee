-- Moments as numbers: microseconds since the start of 1970.
use Rattle.std.specs.Prelude.{ℕ}

-- the last microsecond of the year 9999
abbrev pub greatest_moment : ℕ
greatest_moment = 253402300799999999
