-- A datagram that is noted is the last one, and at first there is none.
use Rattle.std.proofs.Common.{◌≡◌, ℕ, List, [], ◌∷◌, ◌++◌, Option, None, Some, refl, ap}
use Rattle.udp_post.specs.Noted.{datagrams_in}

pub none-noted : datagrams_in [] ≡ []
unfolding datagrams_in
none-noted = refl

pub one-more : (calls : List (Option (List ℕ))) (octets : List ℕ) → datagrams_in (calls ++ Some octets ∷ []) ≡ datagrams_in calls ++ octets ∷ []
unfolding datagrams_in
one-more [] octets = refl
one-more (None ∷ calls) octets = one-more calls octets
one-more (Some first ∷ calls) octets = ap (λ (more : List (List ℕ)). first ∷ more) (one-more calls octets)
