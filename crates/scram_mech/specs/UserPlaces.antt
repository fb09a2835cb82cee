-- Where the lines of users stand, by their names.
use Rattle.std.specs.Prelude.{◌≡◌, ℕ, ◌+◌, List, [], ◌∷◌, Option, Some, None, if◌then◌else◌}
use Rattle.std.specs.Cmp.Lexicographic.{slice_cmp}
use Rattle.std.specs.Ordering.{nat_cmp}
use Rattle.std.specs.BTreeMap.{get_by}
use Rattle.scram_mech.specs.Judging.{same}
use Rattle.scram_mech.specs.VerifierFile.{AreLines}
use Rattle.scram_mech.specs.declared.user_places.Places.{Places}
use Rattle.scram_mech.specs.declared.verifiers.Verifier.{Verifier}

-- the place that a name has
abbrev pub place_of : Places → List ℕ → Option ℕ
place_of places name = get_by (λ key. slice_cmp nat_cmp name key.items) places.by_name

-- the place of a name's first line, where the first of these lines has this place
abbrev pub place_from : ℕ → List Verifier → List ℕ → Option ℕ
place_from place [] name = None
place_from place (line ∷ lines) name =
    if same line.name name then Some place else place_from (place + 1) lines name

-- each name has the place of its first line, and a name of no line has none
abbrev pub AreFound : Places → List Verifier → Type 0
AreFound places lines = (name : List ℕ) → place_of places name ≡ place_from 0 lines name

-- the lines are such as a file may have, and are found by their names
pub record AreKept (lines : List Verifier) (places : Places) : Type 0 where
  pub each : AreLines lines
  pub found : AreFound places lines
