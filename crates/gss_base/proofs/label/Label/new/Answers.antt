use Rattle.std.proofs.Common.{arith}
use Rattle.gss_base.proofs.LabelCells.{label_cells}
use Rattle.gss_base.proofs.label.Label.new.Goals as goal

pub invariant_of-result : goal.invariant_of-result
invariant_of-result c =
    rw (c.copy_from_slice.ensures.after, c.as_bytes.ensures.value) (label_cells c.args.text.now (omega arith) c.utf8.text)
