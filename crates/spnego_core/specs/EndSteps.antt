-- What comes of an initiator's step, whatever its end is.
use Rattle.std.specs.Prelude.{ℕ, List}
use Rattle.spnego_core.specs.declared.outcome.Outcome.{Outcome}
use Rattle.spnego_core.specs.Ends.{EndSays}

-- a token for the acceptor, whose reply the end takes next; or the context stands
pub data StepOf (E : Type 0) : Type 0 where
  More : E → List ℕ → StepOf E
  Done : Outcome → StepOf E

-- the step of an end over plain credentials
abbrev pub StepSays : Type 0
StepSays = StepOf EndSays
