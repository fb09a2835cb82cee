-- Sequence numbers and their window, RFC 2203 section 5.3.3.1: what a number's verdict is, by the
-- list of all numbers that were marked since the window was made, newest first.
use Rattle.std.specs.Prelude.{◌≡◌, ℕ, ◌+◌, ◌-◌, ◌<◌, ◌≤◌, Bool, false, ◌||◌, ◌==◌, nat_lt, nat_le}
use Rattle.std.specs.Prelude.{if◌then◌else◌, List, [], ◌∷◌, max, slice_index_or}
use Rattle.seq_window.specs.declared.window.Verdict.{Verdict}
use Rattle.seq_window.specs.declared.window.Verdict.TheVariants.{AboveMax, Below, Repeat, Fresh}

-- what a window is: its width, the greatest number that was marked (0 at first), and for each of
-- the last numbers from that one down, as many as the width or down to 0, whether it was marked
pub record Seen : Type 0 where
  pub width : ℕ
  pub last : ℕ
  pub flags : List Bool

-- the greatest number of a list, 0 where it is empty
abbrev pub greatest : List ℕ → ℕ
greatest [] = 0
greatest (n ∷ ns) = max n (greatest ns)

-- the number stands in the list
abbrev pub is_in : ℕ → List ℕ → Bool
is_in n [] = false
is_in n (m ∷ ms) = (n == m) || is_in n ms

-- the verdict on a number: it is above the greatest that is allowed, it lies below the window, it
-- was marked before, or it is fresh
abbrev pub verdict_of : ℕ → List ℕ → ℕ → Verdict
verdict_of width numbers n =
    if nat_lt 0x80000000 n then AboveMax
    else if nat_le (n + width) (greatest numbers) then Below (greatest numbers)
    else if is_in n numbers then Repeat
    else Fresh

-- the window says that the number was marked
abbrev pub is_marked : Seen → ℕ → Bool
is_marked window n =
    if nat_le n window.last then slice_index_or window.flags (window.last - n) false else false

-- the window shows these numbers: the last is the greatest of them, and of each number above the
-- window's floor it says whether it is one of them
pub record Shows (window : Seen) (numbers : List ℕ) : Type 0 where
  pub last : window.last ≡ greatest numbers
  pub each : (n : ℕ) → window.last < n + window.width → is_marked window n ≡ is_in n numbers

-- the number may be marked: it is at most the greatest that is allowed, lies above the floor, and
-- wasn't marked
pub record IsFresh (window : Seen) (n : ℕ) : Type 0 where
  pub small : n ≤ 0x80000000
  pub above : window.last < n + window.width
  pub unmarked : is_marked window n ≡ false
