-- What was noted of a socket's calls.
use Rattle.std.specs.Prelude.{ℕ, List, [], ◌∷◌, Option, None, Some}

-- the datagrams, in order
unfoldable pub datagrams_in : List (Option (List ℕ)) → List (List ℕ)
datagrams_in [] = []
datagrams_in (None ∷ calls) = datagrams_in calls
datagrams_in (Some octets ∷ calls) = octets ∷ datagrams_in calls
