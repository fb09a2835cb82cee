use Rattle.std.proofs.Common.{ℕ, List, ◌-◌, ◌*◌, ◌∙◌, refl, arith, length, take, drop}
use Rattle.aes_cts.specs.AesKey.{cipher_key}
use Rattle.aes_cts.specs.Words.{state_of}
use Rattle.aes_cts.proofs.Blocks.{inverse_cipher-is, rounds_of-cipher_key}
use Rattle.aes_cts.proofs.Stolen.{given_back-is}
use Rattle.aes_cts.proofs.key.AesKey.give_back.Goals as goal

pub returns : goal.returns
returns c =
    let n : ℕ = c.args.count in
    let j : ℕ = 16 * n - (16 * n - 16) in
    let octets : List ℕ = c.args.bytes.now in
    let whole = c.block_of-whole.ensures
    ∙ inverse_cipher-is (cipher_key c.args.self.now) (take j (drop (16 * n - 16) octets)) c.args.self.now.rounds (state_of c.state_words.result) (state_of c.decrypt.result)
    (rounds_of-cipher_key c.args.self.now) c.state_words.ensures c.decrypt.ensures in
    given_back-is (cipher_key c.args.self.now) octets c.block_of-whole.result c.copy_from_slice.new.self c.add_to.new.bytes c.copy_from_slice-2.new.self c.decrypt_blocks.new.bytes
    (length octets - 16 * n) j n c.requires.some c.requires.low c.requires.high whole (omega arith) refl
    c.copy_from_slice.ensures.after c.add_to.ensures c.copy_from_slice-2.ensures.after c.decrypt_blocks.ensures
