use Rattle.std.proofs.Common.{ap, ◌∙◌}
use Rattle.std.specs.Int.Bits.{bit_xor}
use Rattle.aes_cts.specs.Field.{sbox}
use Rattle.aes_cts.specs.State.{Column, octet_of, column_of, add_column, sub_column}
use Rattle.aes_cts.proofs.Octets.{column_of-xor, mixed-parts, turned_about}
use Rattle.aes_cts.proofs.columns.mix.Goals as goal

pub returns : goal.returns
unfolding column_of sub_column
returns c =
    ap column_of (turned_about c.mix0.result c.mix1.result c.mix2.result c.mix3.result c.args.key)
    ∙ column_of-xor (bit_xor (bit_xor (bit_xor c.mix0.result c.mix1.result) c.mix2.result) c.mix3.result) c.args.key
    ∙ ap (λ (x : Column). add_column x (column_of c.args.key))
    (mixed-parts c.mix0.result c.mix1.result c.mix2.result c.mix3.result
    (sbox (octet_of c.args.a 24)) (sbox (octet_of c.args.b 16)) (sbox (octet_of c.args.c 8)) (sbox (octet_of c.args.d 0))
    (rw c.octet-3.ensures.value at c.mix0.ensures) (rw c.octet-4.ensures.value at c.mix1.ensures)
    (rw c.octet-2.ensures.value at c.mix2.ensures) (rw c.octet.ensures.value at c.mix3.ensures))
