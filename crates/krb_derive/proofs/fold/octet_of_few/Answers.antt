use Rattle.std.proofs.Common.{length}
use Rattle.krb_derive.specs.Fold.{bit_of_copies}
use Rattle.krb_derive.proofs.Numbers.{octet_around-place}
use Rattle.krb_derive.proofs.fold.octet_of_few.Goals as goal

pub returns : goal.returns
unfolding bit_of_copies
returns c = octet_around-place c.args.octets.now (bit_of_copies (length c.args.octets.now) c.args.at) c.octet_around.result c.octet_around.ensures
