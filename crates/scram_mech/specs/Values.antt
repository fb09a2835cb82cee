-- Values at the front of some octets: as many octets as can be.
use Rattle.std.specs.Prelude.{ℕ, ◌+◌, List, [], ◌∷◌, take, drop, Option, Some, None, Result, Ok}
use Rattle.std.specs.Prelude.{if◌then◌else◌}
use Rattle.scram_mech.specs.declared.refusal.Stuck.{Stuck}
use Rattle.scram_mech.specs.declared.state.State.{State}
use Rattle.scram_mech.specs.State.{step, ends}
use Rattle.scram_mech.specs.Reading.{stuck_at}

-- what is due behind some octets of a value, and how many they are
pub record Progress : Type 0 where
  pub state : State
  pub count : ℕ

-- the same progress with one octet more in front
abbrev pub later : Progress → Progress
later p = record { state = p.state; count = p.count + 1 }

-- a step to the next octet, where it can stand there, and from there as far as can be
abbrev pub go_on : State → Option State → (State → Progress) → Progress
go_on state None rest = record { state = state; count = 0 }
go_on state (Some next) rest = later (rest next)

-- as far as octets can stand in a value
unfoldable pub progress : State → List ℕ → Progress
progress state [] = record { state = state; count = 0 }
progress state (octet ∷ octets) = go_on state (step state octet) (λ next. progress next octets)

-- the value at the front and what is left behind it
unfoldable pub value_at : State → List ℕ → Result (List ℕ × List ℕ) Stuck
value_at start octets =
    let p : Progress = progress start octets in
    if ends p.state then Ok (take p.count octets, drop p.count octets)
    else stuck_at (drop p.count octets)
