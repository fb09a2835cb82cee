use Rattle.std.proofs.Common.{◌≡◌, ◌-◌, ◌*◌, ◌∙◌, arith, length}
use Rattle.std.proofs.lemmas.List.{length-take-le}
use Rattle.aes_cts.specs.AesKey.{forward_key}
use Rattle.aes_cts.specs.Schedule.{rounds_of}
use Rattle.aes_cts.specs.Words.{state_of}
use Rattle.aes_cts.proofs.Blocks.{cipher-is}
use Rattle.aes_cts.proofs.forward.ForwardKey.block.Goals as goal

pub returns : goal.returns
unfolding forward_key
returns c =
    let k = c.args.self.now in
    let long : length (forward_key k) ≡ 4 * (k.rounds - 6) = length-take-le (4 * (k.rounds - 6)) k.octets (omega (arith, k.whole, k.low, k.high)) in
    let rounds : rounds_of (forward_key k) ≡ k.rounds = omega (arith, k.low, k.high) in
    c.block_of.ensures
    ∙ cipher-is (forward_key k) c.args.b.now k.rounds (state_of c.state_words.result) (state_of c.encrypt.result) rounds c.state_words.ensures c.encrypt.ensures
