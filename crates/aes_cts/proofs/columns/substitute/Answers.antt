use Rattle.aes_cts.specs.Field.{sbox}
use Rattle.aes_cts.specs.State.{octet_of, column_of, sub_column}
use Rattle.aes_cts.proofs.Entries.{sbox-lt}
use Rattle.aes_cts.proofs.Octets.{from_be_bytes-column, octet_of-lt}
use Rattle.aes_cts.proofs.columns.substitute.Goals as goal

pub returns : goal.returns
unfolding column_of sub_column
returns c =
    let e = rw (c.sub.ensures, c.sub-2.ensures, c.sub-3.ensures, c.sub-4.ensures, c.octet.ensures.value, c.octet-2.ensures.value, c.octet-3.ensures.value, c.octet-4.ensures.value) at c.from_be_bytes.ensures in
    from_be_bytes-column c.from_be_bytes.result (sbox (octet_of c.args.a 24)) (sbox (octet_of c.args.b 16)) (sbox (octet_of c.args.c 8)) (sbox (octet_of c.args.d 0))
    (sbox-lt (octet_of c.args.a 24) (octet_of-lt c.args.a 24)) (sbox-lt (octet_of c.args.b 16) (octet_of-lt c.args.b 16))
    (sbox-lt (octet_of c.args.c 8) (octet_of-lt c.args.c 8)) (sbox-lt (octet_of c.args.d 0) (octet_of-lt c.args.d 0)) e
