-- A label as it lies in memory: its octets at the front of an array, zeros behind them.
use Rattle.std.specs.Prelude.{ℕ, List, take, IsUtf8}
use Rattle.sec_base.specs.Padded.{IsPadded}

-- at most 255 octets of UTF-8 at the front, the others 0
pub record IsLabel (cells : List ℕ) (count : ℕ) : Type 0 where
  pub padded : IsPadded 255 cells count
  pub utf8 : IsUtf8 (take count cells)
