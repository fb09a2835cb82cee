use Rattle.std.proofs.Common.{◌+◌, get_or, arith}
use Rattle.aes_cts.specs.State.{column_from}
use Rattle.aes_cts.proofs.Octets.{from_be_bytes-column}
use Rattle.aes_cts.proofs.columns.word_at.Goals as goal

pub returns : goal.returns
unfolding column_from
returns c =
    from_be_bytes-column c.from_be_bytes.result (get_or c.args.octets.now c.args.at 0) (get_or c.args.octets.now (c.args.at + 1) 0)
    (get_or c.args.octets.now (c.args.at + 2) 0) (get_or c.args.octets.now (c.args.at + 3) 0)
    (omega (arith, c.type_inv.octets c.args.at)) (omega (arith, c.type_inv.octets (c.args.at + 1)))
    (omega (arith, c.type_inv.octets (c.args.at + 2))) (omega (arith, c.type_inv.octets (c.args.at + 3))) c.from_be_bytes.ensures
