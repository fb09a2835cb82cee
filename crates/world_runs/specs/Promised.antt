-- What is promised of a world by what it shows: of every run that its events can have been.
-- It isn't needed to read the headline.
use Rattle.world_laws.specs.Agreement.{Agreement}
use Rattle.world_laws.specs.Events.{Run, Begins}
use Rattle.world_laws.specs.Origin.{Origin}
use Rattle.world_laws.specs.Premises.{Marking, NoForgery, Fresh}
use Rattle.world_runs.specs.Showing.{Shown, Shows}
use Rattle.world_laws.specs.State.{World}

-- where nothing is forged under the marking's guarded keys, and what is drawn is fresh: agreement
-- holds, and origin
pub record Promised (shown : Shown) : Type 0 where
  pub agrees : (marking : Marking) (start now : World) (run : Run start shown.events now)
      → Begins start → Shows now shown → NoForgery marking start shown.events now run
      → Fresh marking now
      → Agreement marking now
  pub origin : (marking : Marking) (start now : World) (run : Run start shown.events now)
      → Begins start → Shows now shown → NoForgery marking start shown.events now run
      → Fresh marking now
      → Origin marking start shown.events now run
