-- Octets at the front of an array of fixed length, zeros behind them.
use Rattle.std.specs.Prelude.{◌≡◌, ℕ, ◌-◌, ◌≤◌, List, ◌++◌, length, take, drop, replicate}
use Rattle.std.proofs.Common.{arith, take-append-drop, length-take-le}

-- the octets, then zeros up to `size` octets in all
abbrev pub zeros_after : ℕ → List ℕ → List ℕ
zeros_after size octets = octets ++ replicate (size - length octets) 0

-- `size` octets in all, of which those behind the first `count` are 0
pub record IsPadded (size : ℕ) (cells : List ℕ) (count : ℕ) : Type 0 where
  pub size_is : length cells ≡ size
  pub within : count ≤ size
  pub spare : drop count cells ≡ replicate (size - count) 0

-- an array of this kind has at least its first `count` octets
pub within_of : (size : ℕ) (cells : List ℕ) (count : ℕ) → IsPadded size cells count
    → count ≤ length cells
within_of size cells count p = omega (arith, p.size_is, p.within)

-- the array is its octets with the zeros behind them
pub padded_again : (size : ℕ) (cells : List ℕ) (count : ℕ) → IsPadded size cells count
    → zeros_after size (take count cells) ≡ cells
padded_again size cells count p =
    rw (length-take-le count cells (within_of size cells count p), ← p.spare)
    (take-append-drop count cells)
