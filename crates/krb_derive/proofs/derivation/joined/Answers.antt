use Rattle.std.proofs.Common.{refl}
use Rattle.std.proofs.lemmas.List.{take_at, drop_at, append-nil}
use Rattle.krb_derive.proofs.derivation.joined.Goals as goal

pub returns : goal.returns
returns c =
    rw (c.copy_from_slice.ensures.after, c.copy_from_slice-2.ensures.after, take_at c.args.first.now _ 16 c.told-first, drop_at c.args.first.now _ 16 c.told-first, append-nil c.args.second.now) refl
