-- How many elements of a list pass a test.
use Rattle.std.specs.Prelude.{ℕ, ◌+◌, Bool, if◌then◌else◌, List, [], ◌∷◌, nat_le}

-- how many elements pass the test
abbrev pub tally : {X : Type 0} → (X → Bool) → List X → ℕ
tally p [] = 0
tally p (x ∷ xs) = (if p x then 1 else 0) + tally p xs

-- how many times are at least the moment
abbrev pub late : ℕ → List ℕ → ℕ
late moment times = tally (nat_le moment) times

-- whether one time is, as a number
abbrev pub late_one : ℕ → ℕ → ℕ
late_one moment time = if nat_le moment time then 1 else 0
