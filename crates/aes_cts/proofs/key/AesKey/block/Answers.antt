use Rattle.std.proofs.Common.{◌∙◌}
use Rattle.aes_cts.specs.AesKey.{cipher_key}
use Rattle.aes_cts.specs.Words.{state_of}
use Rattle.aes_cts.proofs.Blocks.{cipher-is, rounds_of-cipher_key}
use Rattle.aes_cts.proofs.key.AesKey.block.Goals as goal

pub returns : goal.returns
returns c =
    c.block_of.ensures
    ∙ cipher-is (cipher_key c.args.self.now) c.args.b.now c.args.self.now.rounds (state_of c.state_words.result) (state_of c.encrypt.result)
    (rounds_of-cipher_key c.args.self.now) c.state_words.ensures c.encrypt.ensures
