use Rattle.std.proofs.Common.{◌∙◌, refl, arith}
use Rattle.aes_cts.specs.Field.{sbox}
use Rattle.aes_cts.specs.State.{octet_of, column_of, sub_column, rotate_column}
use Rattle.aes_cts.specs.Schedule.{round_constant}
use Rattle.aes_cts.proofs.Entries.{sbox-lt}
use Rattle.aes_cts.proofs.Octets.{from_be_bytes-column, octet_of-lt, column_of-xor}
use Rattle.aes_cts.proofs.schedule.turned_first.Goals as goal

pub returns : goal.returns
unfolding column_of sub_column rotate_column round_constant
returns c =
    let e = rw (c.sub.ensures, c.sub-2.ensures, c.sub-3.ensures, c.sub-4.ensures, c.octet.ensures.value, c.octet-2.ensures.value, c.octet-3.ensures.value, c.octet-4.ensures.value) at c.from_be_bytes-put.ensures in
    let put = from_be_bytes-column c.from_be_bytes-put.result (sbox (octet_of c.args.before 16)) (sbox (octet_of c.args.before 8)) (sbox (octet_of c.args.before 0)) (sbox (octet_of c.args.before 24))
    (sbox-lt (octet_of c.args.before 16) (octet_of-lt c.args.before 16)) (sbox-lt (octet_of c.args.before 8) (octet_of-lt c.args.before 8))
    (sbox-lt (octet_of c.args.before 0) (octet_of-lt c.args.before 0)) (sbox-lt (octet_of c.args.before 24) (octet_of-lt c.args.before 24)) e in
    let one = from_be_bytes-column c.from_be_bytes.result c.constant.result 0 0 0 c.constant.type_inv (omega arith) (omega arith) (omega arith) c.from_be_bytes.ensures in
    column_of-xor c.from_be_bytes-put.result c.from_be_bytes.result ∙ rw (put, one, c.constant.ensures) refl
