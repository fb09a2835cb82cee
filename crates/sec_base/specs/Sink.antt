-- What was written to a sink.
use Rattle.std.specs.Prelude.{◌≡◌, ℕ, List, ◌++◌, take, Result, Ok, Err}

-- all of the octets were appended, or at a fault a front of them, which may be empty
abbrev pub Appends : {T E : Type 0} → List ℕ → List ℕ → Result T E → List ℕ → Type 0
Appends old new (Ok _) octets = new ≡ old ++ octets
Appends old new (Err e) octets = (count : ℕ) × (new ≡ old ++ take count octets)
