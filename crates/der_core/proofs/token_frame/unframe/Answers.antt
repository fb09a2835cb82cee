use Rattle.der_core.proofs.Wholes.{reads_whole, framed_law}
use Rattle.der_core.proofs.token_frame.unframe.Goals as goal

pub returns-clause-spelled : goal.returns-clause-spelled
returns-clause-spelled c = reads_whole _ _ framed_law c.args.bytes.now c.unframed.result (record { each = λ k. (c.type_inv.bytes k).fits }) c.unframed.ensures
