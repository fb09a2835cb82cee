-- Calls that came by a session's records rise as these do.
use Rattle.std.proofs.Common.{ℕ, ◌<◌, ◌≤◌, List, [], ◌∷◌, arith, subst, inl, inr}
use Rattle.std.specs.List.{AllByRecursion}
use Rattle.again_laws.specs.Acting.{Acted}
use Rattle.again_laws.specs.Sending.{Sent, Sending, IsFrom}
use Rattle.again_laws.proofs.Apart.{Ordered, Rising}

-- a call that came by one of these has what holds of each of them
from-all : (Q : ℕ → ℕ → Type 0) (sent : List Sent) (call : Acted) → AllByRecursion (λ (one : Sent). Q one.xid one.number) sent → IsFrom sent call → Q call.xid call.number
from-all Q [] call all is = absurd is
from-all Q (one ∷ more) call all (inl same) = subst (λ (x : ℕ). Q x call.number) same.0 (subst (λ (n : ℕ). Q one.xid n) same.1 all.0)
from-all Q (one ∷ more) call all (inr is) = from-all Q more call all.1 is

ordered : (sent : List Sent) (a b : Acted) → Sending sent → IsFrom sent a → IsFrom sent b → Ordered a b
ordered [] a b s i j = absurd i
ordered (one ∷ more) a b s (inl i) (inl j) = (λ lt. absurd (omega (arith, lt, i.0, j.0)), λ lt. absurd (omega (arith, lt, i.0, j.0)))
ordered (one ∷ more) a b s (inl i) (inr j) =
    let q = from-all (λ (x n : ℕ). (one.xid ≤ x) × (one.number < n)) more b s.0 j in
    (λ lt. omega (arith, q.1, i.1), λ lt. absurd (omega (arith, lt, q.0, i.0)))
ordered (one ∷ more) a b s (inr i) (inl j) =
    let q = from-all (λ (x n : ℕ). (one.xid ≤ x) × (one.number < n)) more a s.0 i in
    (λ lt. absurd (omega (arith, lt, q.0, j.0)), λ lt. omega (arith, q.1, j.1))
ordered (one ∷ more) a b s (inr i) (inr j) = ordered more a b s.1 i j

all-ordered : (sent : List Sent) (a : Acted) (calls : List Acted) → Sending sent → IsFrom sent a → AllByRecursion (IsFrom sent) calls → AllByRecursion (λ (b : Acted). Ordered a b) calls
all-ordered sent a [] s i all = tt
all-ordered sent a (b ∷ calls) s i all = (ordered sent a b s i all.0, all-ordered sent a calls s i all.1)

pub rises : (sent : List Sent) (calls : List Acted) → Sending sent → AllByRecursion (IsFrom sent) calls → Rising calls
rises sent [] s all = tt
rises sent (a ∷ calls) s all = (all-ordered sent a calls s all.0 all.1, rises sent calls s all.1)
