use Rattle.std.proofs.Common.{refl}
use Rattle.std.proofs.lemmas.List.{take_at, drop_at, append-nil}
use Rattle.krb_tokens.proofs.mic.joined.Goals as goal

pub returns : goal.returns
returns c =
    rw (c.copy_from_slice.ensures.after, c.copy_from_slice-2.ensures.after, take_at c.args.header.now _ 16 c.told-header, drop_at c.args.header.now _ 16 c.told-header, append-nil c.args.tag.now) refl
