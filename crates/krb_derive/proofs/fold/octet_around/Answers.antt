use Rattle.std.proofs.Common.{◌≡◌, ◌+◌, ◌*◌, ◌/◌, ◌%◌, refl, arith}
use Rattle.krb_derive.specs.Fold.{octet_around}
use Rattle.krb_derive.proofs.fold.octet_around.Goals as goal

pub returns : goal.returns
unfolding octet_around
returns c =
    let place : (8 * c.args.at + c.args.bit) / 8 ≡ c.args.at = omega arith in
    let rest : (8 * c.args.at + c.args.bit) % 8 ≡ c.args.bit = omega arith in
    rw (place, rest, c.from.ensures, c.from-2.ensures, c.next_place-next.ensures.value) refl
