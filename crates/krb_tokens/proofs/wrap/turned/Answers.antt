use Rattle.std.proofs.Common.{◌∙◌, refl}
use Rattle.std.proofs.lemmas.List.{take_rest}
use Rattle.krb_tokens.proofs.wrap.turned.Goals as goal

pub returns : goal.returns
returns c =
    c.in_ok-extend_from_slice-2.ensures.items
    ∙ rw (c.in_ok-extend_from_slice.ensures.items, c.in_ok-list.ensures.items, take_rest c.args.octets.now c.args.places) refl
