-- What a post hears and sends.
use Rattle.std.specs.Prelude.{◌≡◌, ℕ, ◌≤◌, List, [], ◌∷◌, ◌++◌, length, take}
use Rattle.std.specs.Prelude.{Option, None, Some, Result, Ok, Err}
use Rattle.datagram_post.specs.declared.post.PostFault.{PostFault}

-- the datagram at the front of a buffer, or none
abbrev pub datagram : Option ℕ → List ℕ → Option (List ℕ)
datagram None buf = None
datagram (Some count) buf = Some (take count buf)

abbrev pub FitsBy : Option ℕ → List ℕ → Type 0
FitsBy None buf = Unit {0}
FitsBy (Some count) buf = count ≤ length buf

-- the datagram lies within the buffer
abbrev pub FitsIn : Result (Option ℕ) PostFault → List ℕ → Type 0
FitsIn (Ok count) buf = FitsBy count buf
FitsIn (Err fault) buf = Unit {0}

-- what came was heard, or the wait in which nothing did; a fault heard nothing
abbrev pub Hears : List (Option (List ℕ)) → List (Option (List ℕ)) → Result (Option ℕ) PostFault
    → List ℕ → Type 0
Hears old new (Ok count) buf = new ≡ old ++ datagram count buf ∷ []
Hears old new (Err fault) buf = new ≡ old

-- a datagram was sent whole, or at a fault not at all
abbrev pub Sends : {T : Type 0} → List (List ℕ) → List (List ℕ) → List ℕ → Result T PostFault
    → Type 0
Sends old new bytes (Ok _) = new ≡ old ++ bytes ∷ []
Sends old new bytes (Err fault) = new ≡ old
