-- The links that a port still gives, in order.
use Rattle.std.specs.Prelude.{◌≡◌, List, [], ◌∷◌, Option, Some, None, Result, Ok, Err}

-- the next link was given, or there was none, or the port failed and gave none
abbrev pub Accepts : {L E : Type 0} → List L → List L → Result (Option L) E → Type 0
Accepts old new (Ok (Some link)) = old ≡ link ∷ new
Accepts old new (Ok None) = (old ≡ []) × (new ≡ [])
Accepts old new (Err e) = new ≡ old
