-- What a clock in memory gives.
use Rattle.std.specs.Prelude.{ℕ, zero, suc, List, [], ◌∷◌}
use Rattle.sec_base.specs.declared.mem_clock.MemClock.{MemClock}

-- the moments that a clock was made with
abbrev pub stated_moments : MemClock → List ℕ
stated_moments clock = clock.moments.items

-- the first `count` moments that are given: those of the list, and then the last of them again and
-- again; `last` is the one given before the list
abbrev pub moments_given : List ℕ → ℕ → ℕ → List ℕ
moments_given moments last zero = []
moments_given [] last (suc count) = last ∷ moments_given [] last count
moments_given (moment ∷ moments) last (suc count) = moment ∷ moments_given moments moment count

-- the moment that is given after `count` others
abbrev pub moment_after : List ℕ → ℕ → ℕ → ℕ
moment_after [] last count = last
moment_after (moment ∷ moments) last zero = moment
moment_after (moment ∷ moments) last (suc count) = moment_after moments moment count
