use Rattle.std.proofs.Common.{◌≡◌, refl, arith, length, take, drop}
use Rattle.std.proofs.lemmas.List.{length-take-le, length-drop}
use Rattle.krb_tokens.proofs.Parts.{between_parts}
use Rattle.krb_tokens.proofs.wrap.unturned_header.Goals as goal

pub returns : goal.returns
returns c =
    let token = c.args.token.now in
    let front : length (take 6 token) ≡ 6 = length-take-le 6 token (omega arith) in
    let back : length (take 8 (drop 8 token)) ≡ 8 = length-take-le 8 (drop 8 token) (omega (arith, length-drop 8 token)) in
    rw (c.copy_from_slice.ensures.after, c.copy_from_slice-2.ensures.after)
    (between_parts (take 6 token) (take 8 (drop 8 token)) 10 2 8 (omega arith) refl refl back)
