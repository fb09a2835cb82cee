use Rattle.std.proofs.Common.{◌<◌, ◌≤◌, ◌∙◌, arith, length}
use Rattle.std.proofs.lemmas.Bool.{le-leb, lt-leb}
use Rattle.aes_cts.specs.AesKey.{cipher_key}
use Rattle.aes_cts.specs.Words.{state_of}
use Rattle.aes_cts.specs.Stealing.{cts_encrypted}
use Rattle.aes_cts.proofs.Blocks.{cipher-is, rounds_of-cipher_key}
use Rattle.aes_cts.proofs.key.AesKey.cts_encrypt.Goals as goal

pub returns-then-count-eq0 : goal.returns-then-count-eq0
unfolding cts_encrypted
returns-then-count-eq0 c =
    let single : length c.args.bytes.now ≤ 16 = omega arith in
    rw (le-leb (length c.args.bytes.now) 16 single)
    (c.copy_from_slice.ensures.after ∙ c.block_of.ensures
    ∙ cipher-is (cipher_key c.args.self.now) c.args.bytes.now c.args.self.now.rounds (state_of c.state_words.result) (state_of c.encrypt-whole.result)
    (rounds_of-cipher_key c.args.self.now) c.state_words.ensures c.encrypt-whole.ensures)

pub returns-else-count-eq0 : goal.returns-else-count-eq0
unfolding cts_encrypted
returns-else-count-eq0 c =
    let more : 16 < length c.args.bytes.now = omega arith in
    rw (lt-leb (length c.args.bytes.now) 16 more) c.steal.ensures
