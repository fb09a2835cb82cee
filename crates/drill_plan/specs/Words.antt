-- The words of a drill.
use Rattle.std.specs.Prelude.{ℕ, Bool, false, ◌&&◌, nat_eq, List, [], ◌∷◌, length, codes, slice_get}
use Rattle.std.specs.Prelude.{Option, Some, None, if◌then◌else◌}
use lib.Pointwise.{pointwise}
use Rattle.cli_base.specs.Numbers.{number_in}
use Rattle.cli_base.specs.Words.{plain_of}
use Rattle.drill_plan.specs.Numbers.{seed_in}
use Rattle.drill_plan.specs.declared.words.Plan.{Plan}

-- the words ask for a drill: the first is `drill`
abbrev pub is_drill : List (List ℕ) → Bool
is_drill [] = false
is_drill (word ∷ words) = pointwise nat_eq word (codes "drill")

-- a drill of this seed and so many calls
abbrev pub plan_with : Option ℕ → Option ℕ → Option Plan
plan_with None calls = None
plan_with (Some seed) None = None
plan_with (Some seed) (Some calls) = Some (record { seed = seed; calls = calls })

-- the drill of these two words: a seed of 64 bits, and 1 to 100,000 calls
abbrev pub plan_by : Option (List ℕ) → Option (List ℕ) → Option Plan
plan_by None calls = None
plan_by (Some seed) None = None
plan_by (Some seed) (Some calls) = plan_with (seed_in seed) (number_in 1 100000 calls)

-- the drill that the words ask for: `drill`, the seed and how many calls, none of which begins with
-- `-`, and no word more
abbrev pub plan_of : List (List ℕ) → Option Plan
plan_of words =
    if is_drill words && nat_eq (length words) 3
    then plan_by (slice_get (plain_of words) 1) (slice_get (plain_of words) 2) else None
