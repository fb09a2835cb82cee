use Rattle.aes_cts.specs.Field.{inverse_sbox}
use Rattle.aes_cts.specs.State.{octet_of, column_of, inverse_sub_column}
use Rattle.aes_cts.proofs.Entries.{inverse_sbox-lt}
use Rattle.aes_cts.proofs.Octets.{from_be_bytes-column, octet_of-lt}
use Rattle.aes_cts.proofs.columns.unsubstitute.Goals as goal

pub returns : goal.returns
unfolding column_of inverse_sub_column
returns c =
    let e = rw (c.unsub.ensures, c.unsub-2.ensures, c.unsub-3.ensures, c.unsub-4.ensures, c.octet.ensures.value, c.octet-2.ensures.value, c.octet-3.ensures.value, c.octet-4.ensures.value) at c.from_be_bytes.ensures in
    from_be_bytes-column c.from_be_bytes.result (inverse_sbox (octet_of c.args.a 24)) (inverse_sbox (octet_of c.args.b 16)) (inverse_sbox (octet_of c.args.c 8)) (inverse_sbox (octet_of c.args.d 0))
    (inverse_sbox-lt (octet_of c.args.a 24) (octet_of-lt c.args.a 24)) (inverse_sbox-lt (octet_of c.args.b 16) (octet_of-lt c.args.b 16))
    (inverse_sbox-lt (octet_of c.args.c 8) (octet_of-lt c.args.c 8)) (inverse_sbox-lt (octet_of c.args.d 0) (octet_of-lt c.args.d 0)) e
