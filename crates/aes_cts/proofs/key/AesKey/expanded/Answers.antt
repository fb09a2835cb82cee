use Rattle.std.proofs.Common.{◌≡◌, ◌+◌, ◌-◌, refl, arith}
use Rattle.aes_cts.specs.AesKey.{cipher_key}
use Rattle.aes_cts.proofs.key.AesKey.expanded.Goals as goal

pub returns : goal.returns
unfolding cipher_key
returns c =
    let words : c.args.size + 6 - 6 ≡ c.args.size = omega arith in
    rw words refl
