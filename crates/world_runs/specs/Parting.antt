-- What an event makes of all the parts of a world that it shows.
-- It isn't needed to read the headline.
use Rattle.std.specs.Prelude.{◌≡◌, List, slice_get, Option, None}
use Rattle.world_laws.specs.declared.event.Happened.{Happened}
use Rattle.world_laws.specs.declared.event.WorldEvent.{WorldEvent}
use Rattle.world_laws.specs.declared.event.WorldEvent.TheVariants.{Start, Deliver, Lane, CallBy}
use Rattle.world_laws.specs.Stages.{StageSays}
use Rattle.world_laws.specs.Lanes.{in_hand}
use Rattle.world_runs.specs.Passing.{started_from, taken_from, called_from, of_stage, Turns, Desk}
use Rattle.world_runs.specs.Passing.{LaneTurns}

-- the parts: where each initiator is, and the desk, which is the book and the lanes
pub record HeldParts : Type 0 where
  pub stages : List StageSays
  pub desk : Desk

-- an event moves one initiator and leaves the desk, or moves one lane and leaves the initiators
abbrev pub Passes : WorldEvent → Option Happened → HeldParts → HeldParts → Type 0
Passes (Start i) answer old new = Turns (of_stage started_from (slice_get old.stages i)) i answer
    old.stages new.stages × (new.desk ≡ old.desk)
Passes (Deliver i octets first) answer old new =
    Turns (of_stage (taken_from first octets) (slice_get old.stages i)) i answer old.stages
    new.stages × (new.desk ≡ old.desk)
Passes (Lane lane octets now draws) answer old new = LaneTurns (slice_get old.desk.lanes lane) lane
    (in_hand None octets now draws) answer old.desk new.desk × (new.stages ≡ old.stages)
Passes (CallBy i procedure args) answer old new =
    Turns (of_stage (called_from procedure args) (slice_get old.stages i)) i answer old.stages
    new.stages × (new.desk ≡ old.desk)
