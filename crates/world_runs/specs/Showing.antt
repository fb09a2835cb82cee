-- What a world shows of itself, and that it came of a run.
-- It isn't needed to read the headline.
use Rattle.std.specs.Prelude.{◌≡◌, List, [], ◌∷◌, ◌++◌, Option, Some}
use Rattle.spnego_core.specs.Ends.{PlainSetup}
use Rattle.accept_book.specs.Booking.{BookOf}
use Rattle.world_laws.specs.declared.event.Happened.{Happened}
use Rattle.world_laws.specs.declared.event.WorldEvent.{WorldEvent}
use Rattle.world_laws.specs.Stages.{StageSays}
use Rattle.world_laws.specs.Deeds.{Deed}
use Rattle.world_laws.specs.Events.{Happens, Run, Begins}
use Rattle.world_laws.specs.State.{InHand, World}
use Rattle.world_runs.specs.Served.{served}

-- all but what was fixed and what was handed out, which no program knows; and the events so far,
-- the first one first
pub record Shown : Type 0 where
  pub facts : List PlainSetup
  pub stages : List StageSays
  pub book : Option BookOf
  pub lanes : List (Option InHand)
  pub events : List WorldEvent

-- the world serves the program of posts, and what is shown is its own: its facts, its stages, its
-- book and its lanes
pub record Shows (w : World) (shown : Shown) : Type 0 where
  pub serves : w.serves ≡ served
  pub facts : shown.facts ≡ w.facts
  pub stages : shown.stages ≡ w.stages
  pub book : shown.book ≡ Some w.book
  pub lanes : shown.lanes ≡ w.lanes

-- the events made, of a world before its first event, one that shows this
pub record Ran (shown : Shown) : Type 0 where
  pub start : World
  pub begins : Begins start
  pub now : World
  pub run : Run start shown.events now
  pub shows : Shows now shown

-- the event happened, with this answer: from every world that shows the old, to one that shows the
-- new
pub record Follows (event : WorldEvent) (answer : Option Happened) (old : World)
    (shown : Shown) : Type 0 where
  pub deed : Deed
  pub new : World
  pub happens : Happens old event deed new
  pub answered : deed.answer ≡ answer
  pub shows : Shows new shown

-- one more event is shown, and it leads from every world that showed the old to a world of the new
pub record Steps (event : WorldEvent) (answer : Option Happened) (old new : Shown) : Type 0 where
  pub events : new.events ≡ old.events ++ event ∷ []
  pub follows : (w : World) → Shows w old → Follows event answer w new
