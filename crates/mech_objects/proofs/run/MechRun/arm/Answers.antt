use Rattle.std.proofs.Common.{rules}
use Rattle.mech_objects.proofs.run.MechRun.arm.Goals as goal

pub returns : goal.returns
returns c = search rules
