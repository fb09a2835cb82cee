-- Lanes of several desks serve records side by side, by one history of questions.
use Rattle.std.specs.Prelude.{◌≡◌, ◌<◌, ◌==◌, if◌then◌else◌, ℕ, List, [], ◌∷◌, ◌++◌, slice_get}
use Rattle.std.specs.Prelude.{map, Option, Some, None}
use mathlib.Core.Logic.{inl, inr}
use Rattle.accept_book.specs.Booking.{BookOf}
use Rattle.accept_book.specs.RecordShown.{Asked, booked}
use Rattle.accept_core.specs.declared.entry.Receipt.{Receipt}
use Rattle.world_laws.specs.declared.event.WorldEvent.{WorldEvent}
use Rattle.world_laws.specs.Deeds.{Deed}
use Rattle.world_laws.specs.Events.{Next, Run}
use Rattle.world_laws.specs.Lanes.{in_hand, LaneMoves}
use Rattle.world_laws.specs.State.{InHand, World}
use Rattle.server_laws.specs.Served.{event_of, Meanwhile}

-- the number of a desk, counted from 0, and a question with the book's answer
abbrev pub BookNote : Type 0
BookNote = ℕ × Asked Receipt

-- each of so many desks, counted from 0, has a lane of its own, without a record in hand
pub record AreFree (w : World) (lane : ℕ → ℕ) (desks : ℕ) : Type 0 where
  pub apart : (i j : ℕ) → i < desks → j < desks → lane i ≡ lane j → i ≡ j
  pub free : (i : ℕ) → i < desks → slice_get w.lanes (lane i) ≡ Some None

-- ---- one turn

-- what is held is this record: its octets, its moment and its draws
pub record IsOf (hand held : InHand) : Type 0 where
  pub octets : held.octets ≡ hand.octets
  pub now : held.kept.now ≡ hand.kept.now
  pub draws : held.kept.draws ≡ hand.kept.draws

-- what is left to a desk after a turn with a record, by what its lane has in hand then: those
-- behind the record, which was answered, or the record too, which is held still
abbrev pub Leaves : InHand → List InHand → Option (Option InHand) → List InHand → Type 0
Leaves hand more None left = ⊥
Leaves hand more (Some None) left = left ≡ more
Leaves hand more (Some (Some held)) left = IsOf hand held × (left ≡ hand ∷ more)

-- a desk's turn: an event of its lane with the first of the records that are left to it, which the
-- lane takes, or goes on with
pub record DeskTurn (lane : ℕ → ℕ) (left : ℕ → List InHand) (desk : ℕ) (old : World) : Type 0 where
  pub hand : InHand
  pub more : List InHand
  pub first : left desk ≡ hand ∷ more
  pub next : Next old (event_of (lane desk) hand)
  pub before : Option InHand
  pub there : slice_get old.lanes (lane desk) ≡ Some before
  pub moves : LaneMoves old (lane desk)
      (in_hand before hand.octets hand.kept.now hand.kept.draws) next.deed next.world
  pub after : List InHand
  pub leaves : Leaves hand more (slice_get next.world.lanes (lane desk)) after

-- ---- turns in a row

-- what a lane asked the book as it moved, as the book has it: one question, or nothing
abbrev pub asked_in : (old : World) (lane : ℕ) (hand : InHand) (deed : Deed) (new : World)
    → LaneMoves old lane hand deed new → List (Asked Receipt)
asked_in old lane hand deed new (inl once) = []
asked_in old lane hand deed new (inr asks) = booked asks.asked ∷ []

-- the question of a turn, with the desk's number
abbrev pub notes_in : (lane : ℕ → ℕ) (left : ℕ → List InHand) (desk : ℕ) (old : World)
    → DeskTurn lane left desk old → List BookNote
notes_in lane left desk old turn = map (λ one. (desk, one)) (asked_in old (lane desk)
    (in_hand turn.before turn.hand.octets turn.hand.kept.now turn.hand.kept.draws) turn.next.deed
    turn.next.world turn.moves)

-- the records that are left to each desk, where these are left to one of them
abbrev pub left_with : (ℕ → List InHand) → ℕ → List InHand → ℕ → List InHand
left_with left desk after other = if other == desk then after else left other

-- desks have turns, in this order of their numbers, until no record is left to any. Before each
-- turn, and after the last, there is what happens meanwhile; there are no other events. The
-- questions of the turns, each with its desk's number, are this history
abbrev pub DeskTurns : (ℕ → ℕ) → ((w : World) → Meanwhile w) → List ℕ → List BookNote
    → (ℕ → List InHand) → World → List WorldEvent → World → Type 0
DeskTurns lane meanwhile [] notes left old events new = ((desk : ℕ) → left desk ≡ [])
    × (notes ≡ []) × (events ≡ (meanwhile old).events) × (new ≡ (meanwhile old).next)
DeskTurns lane meanwhile (desk ∷ order) notes left old events new =
    (turn : DeskTurn lane left desk (meanwhile old).next)
    × (later : List BookNote)
    × (notes ≡ notes_in lane left desk (meanwhile old).next turn ++ later)
    × (rest : List WorldEvent)
    × (events ≡ (meanwhile old).events ++ event_of (lane desk) turn.hand ∷ rest)
    × DeskTurns lane meanwhile order later (left_with left desk turn.after) turn.next.world rest new

-- a run of the world in which the desks' lanes serve these records side by side, and ask the
-- questions of this history in its order, to a world of this book
pub record RunsBeside (lane : ℕ → ℕ) (meanwhile : (w : World) → Meanwhile w) (notes : List BookNote)
    (hands : ℕ → List InHand) (old : World) (book : BookOf) : Type 0 where
  pub events : List WorldEvent
  pub next : World
  pub run : Run old events next
  pub order : List ℕ
  pub turns : DeskTurns lane meanwhile order notes hands old events next
  pub booked : next.book ≡ book
