-- What a writer that takes back its last octets holds.
use Rattle.std.proofs.Common.{◌≡◌, ℕ, List, ◌++◌, length, take, refl}
use Rattle.std.proofs.lemmas.List.{take_at}

-- the octets before those that were added
pub takes_back : (p q r : List ℕ) → r ≡ take (length p) (p ++ q) → r ≡ p
takes_back p q r is = rw (take_at p q (length p) refl) at is
