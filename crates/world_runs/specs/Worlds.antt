-- A world of the program, whose initiators are over objects, and what it shows of itself.
-- It isn't needed to read the headline.
use Rattle.std.specs.Prelude.{◌≡◌, List, map, slice_get, Option, None}
use Rattle.spnego_core.specs.Ends.{PlainSetup, setup_of}
use Rattle.mech_objects.specs.Meaning.{MechSays}
use Rattle.accept_book.specs.Booking.{BookOf}
use Rattle.world_laws.specs.declared.event.Happened.{Happened}
use Rattle.world_laws.specs.declared.event.WorldEvent.{WorldEvent}
use Rattle.world_laws.specs.declared.event.WorldEvent.TheVariants.{Start, Deliver, Lane, CallBy}
use Rattle.world_runs.specs.declared.world.Parts.{Parts}
use Rattle.world_runs.specs.declared.world.World.{World}
use Rattle.world_laws.specs.State.{InHand}
use Rattle.world_laws.specs.Lanes.{in_hand}
use Rattle.world_runs.specs.Passing.{Desk, LaneTurns}
use Rattle.world_runs.specs.Showing.{Shown, Ran}
use Rattle.world_runs.specs.Objects.{StageMeans, stage_means, StagesAs, plain_list}
use Rattle.world_runs.specs.ObjectMoves.{started_from, taken_from, called_from, of_stage, Turns}

-- ---- the parts that events change

-- where each initiator is, and the desk, which is the book and the lanes
pub record PartsMeans : Type 0 where
  pub stages : List StageMeans
  pub desk : Desk

-- the parts that the program holds, by what its objects are
abbrev pub parts_means : {X : Type 0} → {D : X → Type 0} → Parts X D
    → ((x : X) × D x → MechSays) → PartsMeans
parts_means p says = record {
  stages = map (λ stage. stage_means stage says) p.stages.items;
  desk = record { book = p.book; lanes = p.lanes.items };
}

-- an event moves one initiator and leaves the desk, or moves one lane and leaves the initiators
abbrev pub PassesBy : WorldEvent → Option Happened → PartsMeans → PartsMeans → Type 0
PassesBy (Start i) answer old new = Turns (of_stage started_from (slice_get old.stages i)) i answer
    old.stages new.stages × (new.desk ≡ old.desk)
PassesBy (Deliver i octets first) answer old new =
    Turns (of_stage (taken_from first octets) (slice_get old.stages i)) i answer old.stages
    new.stages × (new.desk ≡ old.desk)
PassesBy (Lane lane octets now draws) answer old new = LaneTurns (slice_get old.desk.lanes lane)
    lane (in_hand None octets now draws) answer old.desk new.desk × (new.stages ≡ old.stages)
PassesBy (CallBy i procedure args) answer old new =
    Turns (of_stage (called_from procedure args) (slice_get old.stages i)) i answer old.stages
    new.stages × (new.desk ≡ old.desk)

-- ---- the world

-- what the initiators were begun with, where they are, the book, the lanes, and the events so far
pub record WorldMeans : Type 0 where
  pub facts : List PlainSetup
  pub stages : List StageMeans
  pub book : Option BookOf
  pub lanes : List (Option InHand)
  pub events : List WorldEvent

-- a world of the program, by what its objects are
abbrev pub world_means : {X : Type 0} → {D : X → Type 0} → World X D
    → ((x : X) × D x → MechSays) → WorldMeans
world_means w says = record {
  facts = map setup_of w.facts.items;
  stages = map (λ stage. stage_means stage says) w.parts.stages.items;
  book = w.parts.book;
  lanes = w.parts.lanes.items;
  events = w.events.items;
}

-- what it shows: where initiators by credentials are that were begun with its facts
abbrev pub shown_by : WorldMeans → Shown
shown_by w = record {
  facts = w.facts;
  stages = plain_list w.facts w.stages;
  book = w.book;
  lanes = w.lanes;
  events = w.events;
}

-- what a world of the program shows, by what its objects are
abbrev pub shown : {X : Type 0} → {D : X → Type 0} → World X D → ((x : X) × D x → MechSays)
    → Shown
shown w says = shown_by (world_means w says)

-- its events made what it shows, and each of its initiators is where the one is that it shows. Each
-- world of the program is so: a new one is, and each event leaves it so
pub record IsWorld (w : WorldMeans) : Type 0 where
  pub ran : Ran (shown_by w)
  pub stands : StagesAs w.stages (plain_list w.facts w.stages)
