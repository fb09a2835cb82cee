-- The rounds of a block by their stages of twenty (FIPS 180-4 section 6.1.2).
use Rattle.std.specs.Prelude.{◌≡◌, ℕ, ◌+◌, ◌<◌, ◌≤◌, List, slice_index}
use Rattle.sha1.specs.Sha1.{ch, parity, maj, round_fn, round_constant, schedule, rounds}
use Rattle.lanes_sha1.specs.declared.rounds.RoundFunction.{RoundFunction}
use Rattle.lanes_sha1.specs.declared.rounds.RoundFunction.TheVariants.{Choose, Parity, Majority}

-- the function of that name (section 4.1.1)
abbrev pub function_of : RoundFunction → ℕ → ℕ → ℕ → ℕ
function_of Choose = ch
function_of Parity = parity
function_of Majority = maj

-- round t goes by that function and that constant (sections 4.1.1 and 4.2.1)
abbrev pub IsRound : RoundFunction → ℕ → ℕ → Type 0
IsRound function constant t =
    (round_constant t ≡ constant)
    × ((x y z : ℕ) → round_fn t x y z ≡ function_of function x y z)

-- so do that many rounds from round `first` on
abbrev pub AreRounds : RoundFunction → ℕ → ℕ → ℕ → Type 0
AreRounds function constant first count =
    (t : ℕ) → first ≤ t → t < first + count → IsRound function constant t

-- the first n words are those of the block's schedule (step 1)
abbrev pub Scheduled : List ℕ → List ℕ → ℕ → Type 0
Scheduled block words n =
    (t : ℕ) → t < n → slice_index words t ≡ slice_index (schedule block 64) t

-- the working variables after t rounds of the block, from the hash value h (step 3)
abbrev pub working_after : List ℕ → List ℕ → ℕ → List ℕ
working_after block h t = rounds h (schedule block 64) t
