-- The generator of a drill: a linear congruence, of whose value each step gives the top octet.
use Rattle.std.specs.Prelude.{ℕ, zero, suc, ◌+◌, ◌*◌, ◌/◌, ◌%◌, ◌^◌, List, [], ◌∷◌}

-- the value after a step
abbrev pub stepped : ℕ → ℕ
stepped x = (x * 6364136223846793005 + 1442695040888963407) % 2 ^ 64

-- the top octet of a value
abbrev pub top_of : ℕ → ℕ
top_of x = x / 2 ^ 56

-- the octets of so many steps
abbrev pub octets_from : ℕ → ℕ → List ℕ
octets_from zero x = []
octets_from (suc count) x = top_of (stepped x) ∷ octets_from count (stepped x)

-- the value after so many steps
abbrev pub after_steps : ℕ → ℕ → ℕ
after_steps zero x = x
after_steps (suc count) x = after_steps count (stepped x)
