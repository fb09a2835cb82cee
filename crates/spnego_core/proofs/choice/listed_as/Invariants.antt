use Rattle.std.proofs.Common.{◌≡◌, drop}
use Rattle.spnego_core.specs.Choice.{listed_as}
use Rattle.spnego_core.proofs.choice.listed_as.Given as goal

abbrev pub invariant-loop-oid : goal.invariant-loop-oid
invariant-loop-oid l = listed_as l.list l.kind ≡ listed_as (drop l.oid-index l.list) l.kind
