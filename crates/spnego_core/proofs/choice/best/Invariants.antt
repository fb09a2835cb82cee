use Rattle.std.proofs.Common.{◌≡◌, drop}
use Rattle.spnego_core.specs.Choice.{best}
use Rattle.spnego_core.proofs.choice.best.Given as goal

abbrev pub invariant-loop-oid : goal.invariant-loop-oid
invariant-loop-oid l = best l.offer l.list ≡ best l.offer (drop l.oid-index l.list)
