-- How many replies a negotiating end may still take.
use Rattle.std.specs.Prelude.{ℕ, ◌<◌, ◌+◌}
use Rattle.spnego_core.specs.MechStates.{InitMech}
use Rattle.spnego_core.specs.MechStates as mechs
use Rattle.spnego_core.specs.Ends.{EndSays}
use Rattle.spnego_core.specs.Ends as ends
use Rattle.spnego_core.specs.EndSteps.{StepSays}
use Rattle.spnego_core.specs.EndSteps as steps

-- how many a mechanism still takes: Kerberos one, SCRAM the acceptor's first text and its signature
abbrev pub taken_by : InitMech → ℕ
taken_by (mechs.Kerberos end) = 1
taken_by (mechs.Scram end) = 2
taken_by (mechs.Proof end) = 1

-- one to the own MIC; before it those that the mechanism takes; before the first, at most those of
-- any mechanism and the one that chooses it
abbrev pub replies_left : EndSays → ℕ
replies_left (ends.Opens opening) = 4
replies_left (ends.Talks talking) = taken_by talking.mech + 1
replies_left (ends.Signed signed) = 1

-- a step leads to an end that takes fewer
abbrev pub IsNearer : ℕ → StepSays → Type 0
IsNearer count (steps.More end token) = replies_left end < count
IsNearer count (steps.Done outcome) = Unit {0}
