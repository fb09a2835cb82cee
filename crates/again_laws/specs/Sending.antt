-- The records that a session sends on a context.
use Rattle.std.specs.Prelude.{◌≡◌, ◌⊎◌, ℕ, ◌<◌, ◌≤◌, List, [], ◌∷◌}
use Rattle.std.specs.List.{AllByRecursion}
use Rattle.again_laws.specs.Acting.{Acted}

-- a record's transaction number, and its number on the context
pub record Sent : Type 0 where
  pub xid : ℕ
  pub number : ℕ

-- each record has a greater number than those before it, also one that sends its call again; and
-- transaction numbers never fall: a call that is sent again keeps its own (RFC 2203, 5.3.3.1)
abbrev pub Sending : List Sent → Type 0
Sending [] = Unit {0}
Sending (one ∷ more) =
    AllByRecursion (λ next. (one.xid ≤ next.xid) × (one.number < next.number)) more × Sending more

-- the call came by one of these records
abbrev pub IsFrom : List Sent → Acted → Type 0
IsFrom [] call = ⊥
IsFrom (one ∷ more) call =
    ((one.xid ≡ call.xid) × (one.number ≡ call.number)) ⊎ IsFrom more call
