-- What an initiator did, beside what it is said to do.
-- It isn't needed to read the headline.
use Rattle.std.specs.Prelude.{◌≡◌, Result, Ok, Err}
use Rattle.sec_base.specs.declared.memory.NoMemory.{NoMemory}
use Rattle.mech_objects.specs.Meaning.{MechSays}
use Rattle.world_laws.specs.declared.event.Happened.{Happened}
use Rattle.world_runs.specs.declared.initiators.Moves.{Moves}
use Rattle.world_runs.specs.Objects.{StageMeans, Over, stage_means}
use Rattle.world_runs.specs.ObjectMoves.{MovedMeans}

-- where it is then, and what came of it, unless memory was wanted
pub record MovesMeans : Type 0 where
  pub stage : StageMeans
  pub happened : Result Happened NoMemory

-- what the code's initiator did, by what its objects are
abbrev pub moves_means : {X : Type 0} → {D : X → Type 0} → Moves X D
    → ((x : X) × D x → MechSays) → MovesMeans
moves_means moves says =
    record { stage = stage_means moves.stage says; happened = moves.happened }

-- it answered this and is in this stage; or memory was wanted, and it is in the other
abbrev pub GoesTo : StageMeans → Happened → StageMeans → StageMeans → Result Happened NoMemory
    → Type 0
GoesTo stage answer lost left (Ok happened) = (left ≡ stage) × (happened ≡ answer)
GoesTo stage answer lost left (Err memory) = left ≡ lost

-- the same of what it did: `lost` is where it is if memory was wanted
abbrev pub Goes : StageMeans → Happened → StageMeans → MovesMeans → Type 0
Goes stage answer lost moves = GoesTo stage answer lost moves.stage moves.happened

-- memory was wanted, and it has ended, whatever it would have done
abbrev pub IsLost : MovesMeans → Type 0
IsLost moves = (stage : StageMeans) (answer : Happened) → Goes stage answer Over moves

-- so it moved
abbrev pub IsMove : MovedMeans → MovesMeans → Type 0
IsMove moved moves = Goes moved.stage moved.answer moved.lost moves
