-- What a program says of its status.
use Rattle.std.specs.Prelude.{◌≡◌, ◌≢◌, ℕ, Bool, if◌then◌else◌, List, ◌++◌, take, codes}

-- the line of status 8, want of memory
abbrev pub memory_line : List ℕ
memory_line = codes "out of memory\n"

-- this line was written, or at status 6 a front of it
pub record SaysLine (old new : List ℕ) (status : ℕ) (line : List ℕ) : Type 0 where
  pub whole : status ≢ 6 → new ≡ old ++ line
  pub front : status ≡ 6 → (count : ℕ) × (new ≡ old ++ take count line)

-- the line that is due was written, or at status 8 that of want of memory, or at status 6 a front
-- of one of the two
pub record Says (old new : List ℕ) (status : ℕ) (due : List ℕ) : Type 0 where
  pub whole : status ≢ 6 → status ≢ 8 → new ≡ old ++ due
  pub memory : status ≡ 8 → new ≡ old ++ memory_line
  pub front : status ≡ 6 → (memory : Bool) × (count : ℕ)
      × (new ≡ old ++ take count (if memory then memory_line else due))
