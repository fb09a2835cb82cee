use Rattle.std.proofs.Common.{◌≡◌, ◌+◌, ◌-◌, refl, arith}
use Rattle.aes_cts.specs.AesKey.{forward_key}
use Rattle.aes_cts.proofs.forward.ForwardKey.expanded.Goals as goal

pub returns : goal.returns
unfolding forward_key
returns c =
    let words : c.args.size + 6 - 6 ≡ c.args.size = omega arith in
    rw words refl
