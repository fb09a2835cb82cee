use Rattle.std.proofs.Common.{ap, ◌∙◌}
use Rattle.std.specs.Int.Bits.{bit_xor}
use Rattle.aes_cts.specs.Field.{inverse_sbox}
use Rattle.aes_cts.specs.State.{Column, octet_of, column_of, add_column, inverse_sub_column}
use Rattle.aes_cts.proofs.Octets.{column_of-xor, unmixed-parts, turned_about}
use Rattle.aes_cts.proofs.columns.unmix.Goals as goal

pub returns : goal.returns
unfolding column_of inverse_sub_column
returns c =
    ap column_of (turned_about c.unmix0.result c.unmix1.result c.unmix2.result c.unmix3.result c.args.key)
    ∙ column_of-xor (bit_xor (bit_xor (bit_xor c.unmix0.result c.unmix1.result) c.unmix2.result) c.unmix3.result) c.args.key
    ∙ ap (λ (x : Column). add_column x (column_of c.args.key))
    (unmixed-parts c.unmix0.result c.unmix1.result c.unmix2.result c.unmix3.result
    (inverse_sbox (octet_of c.args.a 24)) (inverse_sbox (octet_of c.args.b 16)) (inverse_sbox (octet_of c.args.c 8)) (inverse_sbox (octet_of c.args.d 0))
    (rw c.octet-3.ensures.value at c.unmix0.ensures) (rw c.octet-4.ensures.value at c.unmix1.ensures)
    (rw c.octet-2.ensures.value at c.unmix2.ensures) (rw c.octet.ensures.value at c.unmix3.ensures))
