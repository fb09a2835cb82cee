-- Which complete context was used longest ago, as the history says it, and how many places complete
-- ones may have.
use Rattle.std.specs.Prelude.{◌≡◌, ◌≢◌, ℕ, ◌<◌, ◌≤◌, true, false, ◌==◌, if◌then◌else◌, List, []}
use Rattle.std.specs.Prelude.{◌∷◌, ◌++◌, length, Option, None, Some, slice_get, max, ◌*◌, ◌/◌}
use Rattle.use_order.specs.Orders.{without}
use Rattle.accept_core.specs.declared.entry.Entry.{Entry}
use Rattle.accept_core.specs.declared.entry.Entry.TheVariants.{Opened, Auth, Went, Settled, Call}
use Rattle.accept_core.specs.declared.entry.Entry.TheVariants.{Ended}
use Rattle.accept_core.specs.History.{standing, opened, is_whole}
use Rattle.accept_core.specs.Legal.{Legal}

-- the ids of the complete contexts, the one used longest ago first: a settling and a call are uses
abbrev pub in_use : List Entry → List ℕ
in_use [] = []
in_use (Opened i at ∷ h) = in_use h
in_use (Auth i mark at ∷ h) = in_use h
in_use (Went i at ∷ h) = in_use h
in_use (Settled i mech names ends at ∷ h) = in_use h ++ i ∷ []
in_use (Call i seq procedure args ∷ h) = without i (in_use h) ++ i ∷ []
in_use (Ended i cause ∷ h) = without i (in_use h)

-- the place of an id's newest call, or of its settling where it had none; 0 where it isn't settled
abbrev pub last_use : ℕ → List Entry → ℕ
last_use id [] = 0
last_use id (Opened i at ∷ h) = last_use id h
last_use id (Auth i mark at ∷ h) = last_use id h
last_use id (Went i at ∷ h) = last_use id h
last_use id (Settled i mech names ends at ∷ h) = if i == id then length h else last_use id h
last_use id (Call i seq procedure args ∷ h) = if i == id then length h else last_use id h
last_use id (Ended i cause ∷ h) = last_use id h

-- the id is complete, and each other complete one was used after it
pub record UsedLongestAgo (h : List Entry) (id : ℕ) : Type 0 where
  pub whole : is_whole (standing id h) ≡ true
  pub oldest : (other : ℕ) → is_whole (standing other h) ≡ true → id ≢ other
      → last_use id h < last_use other h

-- the complete context that was used longest ago, None exactly where none is complete
abbrev pub IsUsedLongestAgo : List Entry → Option ℕ → Type 0
IsUsedLongestAgo h None = (id : ℕ) → is_whole (standing id h) ≡ false
IsUsedLongestAgo h (Some id) = UsedLongestAgo h id

-- the first of those in use is the one that was used longest ago
abbrev pub OldestFirst : Type 0
OldestFirst =
    (width : ℕ) (h : List Entry) → Legal width h → IsUsedLongestAgo h (slice_get (in_use h) 0)

-- the place of the entry that opened an id, 0 where it isn't opened
abbrev pub opened_at : ℕ → List Entry → ℕ
opened_at id [] = 0
opened_at id (Opened i at ∷ h) = if i == id then length h else opened_at id h
opened_at id (Auth i mark at ∷ h) = opened_at id h
opened_at id (Went i at ∷ h) = opened_at id h
opened_at id (Settled i mech names ends at ∷ h) = opened_at id h
opened_at id (Call i seq procedure args ∷ h) = opened_at id h
opened_at id (Ended i cause ∷ h) = opened_at id h

-- of two ids that were opened the lesser one was opened first
abbrev pub IdsRise : Type 0
IdsRise =
    (width : ℕ) (h : List Entry) (id other : ℕ) → Legal width h → 0 < id → id < other
    → other ≤ opened h → opened_at id h < opened_at other h

-- how many of a table's places complete contexts may have: three quarters, rounded down, and one at
-- the least
abbrev pub most_whole : ℕ → ℕ
most_whole limit = max 1 (limit * 3 / 4)
