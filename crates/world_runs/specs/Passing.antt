-- What an event makes of the parts of a world that it shows.
-- It isn't needed to read the headline.
use Rattle.std.specs.Prelude.{◌≡◌, ◌⊎◌, ℕ, ◌==◌, Bool, true, false, nat_le, List, slice_set}
use Rattle.std.specs.Prelude.{Option, Some, None}
use Rattle.accept_book.specs.Booking.{BookOf}
use Rattle.gss_client.specs.Session.{SessionState}
use Rattle.world_laws.specs.declared.event.Happened.{Happened}
use Rattle.world_laws.specs.declared.event.Happened.TheVariants.{Nothing}
use Rattle.world_laws.specs.Stages.{StageSays}
use Rattle.world_laws.specs.Stages as stages
use Rattle.world_laws.specs.State.{InHand}
use Rattle.world_laws.specs.Events.{IsBook}
use Rattle.world_laws.specs.Initiators.{Moved, starts, takes, calls, leaves}
use Rattle.world_runs.specs.Served.{served}
use Rattle.world_runs.specs.Turning.{Turned}

-- ---- the move of an initiator by its stage, where the event is for it

-- a start, which is for one that wasn't started
abbrev pub started_from : StageSays → Option Moved
started_from (stages.Ready own) = Some (starts served own)
started_from (stages.Asks xid end) = None
started_from (stages.Stands s) = None
started_from (stages.Left s) = None
started_from stages.Over = None

-- a reply, which is for one that has a creation call out, and the number of its session's first
-- call
abbrev pub taken_from : ℕ → List ℕ → StageSays → Option Moved
taken_from first octets (stages.Ready own) = None
taken_from first octets (stages.Asks xid end) = Some (takes served first xid end octets)
taken_from first octets (stages.Stands s) = None
taken_from first octets (stages.Left s) = None
taken_from first octets stages.Over = None

-- a session whose number is one of a call makes that call, and one with the number after these ends
-- its context
abbrev pub called_with : Bool → Bool → SessionState → ℕ → List ℕ → Option Moved
called_with true last s procedure args = Some (calls s procedure args)
called_with false true s procedure args = Some (leaves s)
called_with false false s procedure args = None

-- a call, which is for one whose context stands
abbrev pub called_from : ℕ → List ℕ → StageSays → Option Moved
called_from procedure args (stages.Ready own) = None
called_from procedure args (stages.Asks xid end) = None
called_from procedure args (stages.Stands s) =
    called_with (nat_le s.number 0x7fffffff) (s.number == 0x80000000) s procedure args
called_from procedure args (stages.Left s) = None
called_from procedure args stages.Over = None

-- the initiator of a place, where there is one
abbrev pub of_stage : (StageSays → Option Moved) → Option StageSays → Option Moved
of_stage move None = None
of_stage move (Some stage) = move stage

-- the initiator of this place moves so, or memory was wanted; without a move nothing happens
abbrev pub Turns : Option Moved → ℕ → Option Happened → List StageSays → List StageSays → Type 0
Turns None i answer old new = (answer ≡ Some Nothing) × (new ≡ old)
Turns (Some moved) i answer old new =
    ((answer ≡ Some moved.answer) × (new ≡ slice_set old i moved.stage))
    ⊎ ((answer ≡ None) × (new ≡ slice_set old i moved.lost))

-- ---- lanes

-- the book, and the records in hand
pub record Desk : Type 0 where
  pub book : Option BookOf
  pub lanes : List (Option InHand)

-- a lane goes on with the record that it has in hand, or with the one that was taken
abbrev pub hand_or : Option InHand → InHand → InHand
hand_or None taken = taken
hand_or (Some hand) taken = hand

-- a lane's turn, from one desk to the next: the book is there again, and its log is legal
pub record LaneGoes (before : Option InHand) (lane : ℕ) (taken : InHand) (answer : Option Happened)
    (old new : Desk) : Type 0 where
  pub book : BookOf
  pub next : BookOf
  pub was : old.book ≡ Some book
  pub is : new.book ≡ Some next
  pub left : Option InHand
  pub turned : Turned served book (hand_or before taken) next left answer
  pub legal : IsBook next
  pub lanes : new.lanes ≡ slice_set old.lanes lane left

-- the same of the lane of a place; where there is none, nothing happens
abbrev pub LaneTurns : Option (Option InHand) → ℕ → InHand → Option Happened → Desk → Desk → Type 0
LaneTurns None lane taken answer old new = (answer ≡ Some Nothing) × (new ≡ old)
LaneTurns (Some before) lane taken answer old new = LaneGoes before lane taken answer old new
