-- The orders of a table's live cells: those of contexts that negotiate by rising id, and those of
-- complete ones by their last use.
use Rattle.std.specs.Prelude.{◌≡◌, ℕ, ◌<◌, ◌≤◌, not, Bool, true, false, if◌then◌else◌, List, []}
use Rattle.std.specs.Prelude.{◌∷◌, ◌++◌, take, slice_get, Option, None, Some}
use Rattle.use_order.specs.Orders.{Order, is_among, without}
use Rattle.use_order.specs.Links.{Distinct}
use Rattle.context_table.specs.declared.slot.Slot.{Slot}
use Rattle.context_table.specs.Slots.{waits}
use Rattle.context_table.specs.Places.{Places, is_complete}
use Rattle.context_table.specs.Order.{gathered, places_of, IsTable}

-- the ids of slots
abbrev pub ids_of : {N S : Type 0} → List (Slot N S) → List ℕ
ids_of [] = []
ids_of (slot ∷ slots) = slot.id ∷ ids_of slots

-- the table with its order of use
abbrev pub table_of : {N S : Type 0} → ℕ → ℕ → ℕ → List ℕ → List (Slot N S) → List ℕ → Places N S
table_of limit width live order slots used =
    record (places_of limit width live order slots) { used = ids_of (gathered used slots) }

-- the slot of a cell is that of a complete context
abbrev pub is_whole_at : {N S : Type 0} → List (Slot N S) → ℕ → Bool
is_whole_at slots cell = is_complete (slice_get slots cell)

-- an order of use after a use
abbrev pub touched : ℕ → List ℕ → List ℕ
touched id used = if is_among id used then without id used ++ id ∷ [] else used

-- numbers that rise
abbrev pub Over : ℕ → List ℕ → Type 0
Over n [] = Unit {0}
Over n (next ∷ rest) = (n < next) × Over next rest

abbrev pub Ascends : List ℕ → Type 0
Ascends [] = Unit {0}
Ascends (n ∷ rest) = Over n rest

-- each live cell stands once in one of the two orders: with the complete ones or with the others,
-- and these by rising id
pub record IsQueued {N S : Type 0} (limit live : ℕ) (order : List ℕ) (slots : List (Slot N S))
    (opening used : Order) : Type 0 where
  pub opening_limit : opening.limit ≡ limit
  pub used_limit : used.limit ≡ limit
  pub opening_once : Distinct opening.cells
  pub used_once : Distinct used.cells
  pub negotiate : (cell : ℕ) → is_among cell opening.cells
      ≡ (if is_among cell (take live order) then not (is_whole_at slots cell) else false)
  pub complete : (cell : ℕ) → is_among cell used.cells
      ≡ (if is_among cell (take live order) then is_whole_at slots cell else false)
  pub rising : Ascends (ids_of (gathered opening.cells slots))

-- no live slot ends before a moment
pub record IsAhead {N S : Type 0} (live : ℕ) (order : List ℕ) (slots : List (Slot N S))
    (soonest : ℕ) : Type 0 where
  pub each : (cell : ℕ) (slot : Slot N S) → is_among cell (take live order) ≡ true
      → slice_get slots cell ≡ Some slot → soonest ≤ slot.ends

pub record IsAging {N S : Type 0} (limit width live : ℕ) (order : List ℕ) (slots : List (Slot N S))
    (opening used : Order) (soonest : ℕ) : Type 0 where
  pub table : IsTable limit width live order slots
  pub queued : IsQueued limit live order slots opening used
  pub ahead : IsAhead live order slots soonest

-- the id of the first of these slots whose context waits
abbrev pub first_of : {N S : Type 0} → List (Slot N S) → Option ℕ
first_of [] = None
first_of (slot ∷ slots) = if waits slot.state then Some slot.id else first_of slots

abbrev pub IsFirstWaiting : {N S : Type 0} → List (Slot N S) → Option ℕ → Type 0
IsFirstWaiting slots result = result ≡ first_of slots
