use Rattle.std.proofs.Common.{rules}
use Rattle.sec_base.proofs.Cells.{oid_cells}
use Rattle.sec_base.proofs.oid.Oid.new.Goals as goal

pub invariant_of-result : goal.invariant_of-result
invariant_of-result c =
    rw c.copy_from_slice.ensures.after (oid_cells c.args.content.now (search rules))
