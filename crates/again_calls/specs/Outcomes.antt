-- What is kept of a call's outcome, and told again of it.
use Rattle.std.specs.Prelude.{◌≡◌, ℕ, ◌<◌, ◌≤◌, List, length, Option, Some, None}
use Rattle.rpc_program.specs.declared.outcome.Outcome.{Outcome}
use Rattle.rpc_program.specs.declared.outcome.Outcome.TheVariants as outcomes
use Rattle.again_calls.specs.declared.outcome.KeptOutcome.{KeptOutcome}
use Rattle.again_calls.specs.declared.outcome.KeptOutcome.TheVariants as kepts

-- a result of at most so many octets is kept, unless memory was wanted; of a longer one it is kept
-- that it was longer
abbrev pub KeepsResult : ℕ → List ℕ → KeptOutcome → Type 0
KeepsResult most octets kepts.Args = ⊥
KeepsResult most octets (kepts.Done kept) = (kept.octets ≡ octets) × (length octets ≤ most)
KeepsResult most octets (kepts.Refused why) = ⊥
KeepsResult most octets (kepts.Mismatch low high) = ⊥
KeepsResult most octets kepts.Gone = ⊥
KeepsResult most octets kepts.NoMemory = length octets ≤ most
KeepsResult most octets kepts.Long = most < length octets

-- an outcome is kept, of a result at most so many octets
abbrev pub IsKept : ℕ → Outcome → KeptOutcome → Type 0
IsKept most outcomes.Args kept = kept ≡ kepts.Args
IsKept most (outcomes.Done octets) kept = KeepsResult most octets kept
IsKept most (outcomes.Refused why) kept = kept ≡ kepts.Refused why
IsKept most (outcomes.Mismatch low high) kept = kept ≡ kepts.Mismatch low high
IsKept most outcomes.Gone kept = kept ≡ kepts.Gone
IsKept most outcomes.NoMemory kept = kept ≡ kepts.NoMemory

-- the outcome is this result, unless memory was wanted
abbrev pub IsResult : List ℕ → Outcome → Type 0
IsResult result outcomes.Args = ⊥
IsResult result (outcomes.Done octets) = octets ≡ result
IsResult result (outcomes.Refused why) = ⊥
IsResult result (outcomes.Mismatch low high) = ⊥
IsResult result outcomes.Gone = ⊥
IsResult result outcomes.NoMemory = Unit {0}

-- the same, where something is told
abbrev pub IsSomeResult : List ℕ → Option Outcome → Type 0
IsSomeResult result None = ⊥
IsSomeResult result (Some outcome) = IsResult result outcome

-- what is told again of a kept outcome: nothing of a result that was longer than is kept
abbrev pub IsAgain : KeptOutcome → Option Outcome → Type 0
IsAgain kepts.Args told = told ≡ Some outcomes.Args
IsAgain (kepts.Done kept) told = IsSomeResult kept.octets told
IsAgain (kepts.Refused why) told = told ≡ Some (outcomes.Refused why)
IsAgain (kepts.Mismatch low high) told = told ≡ Some (outcomes.Mismatch low high)
IsAgain kepts.Gone told = told ≡ Some outcomes.Gone
IsAgain kepts.NoMemory told = told ≡ Some outcomes.NoMemory
IsAgain kepts.Long told = told ≡ None
