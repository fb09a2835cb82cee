use Rattle.std.proofs.Common.{◌∙◌, ap}
use Rattle.aes_cts.specs.AesKey.{cipher_key}
use Rattle.aes_cts.specs.Words.{state_of}
use Rattle.aes_cts.specs.Cipher.{cipher, inverse_cipher}
use Rattle.aes_cts.proofs.Blocks.{inverse_cipher-is, rounds_of-cipher_key, cipher_key-AreKeys, inverse_cipher-cipher, cipher-inverse_cipher}
use Rattle.aes_cts.proofs.key.AesKey.unblock.Goals as goal

pub returns-clause-value : goal.returns-clause-value
returns-clause-value c =
    c.block_of.ensures
    ∙ inverse_cipher-is (cipher_key c.args.self.now) c.args.b.now c.args.self.now.rounds (state_of c.state_words.result) (state_of c.decrypt.result)
    (rounds_of-cipher_key c.args.self.now) c.state_words.ensures c.decrypt.ensures

pub returns-clause-undoes : goal.returns-clause-undoes
returns-clause-undoes c = λ block octets len e.
    c.block_of.ensures
    ∙ inverse_cipher-is (cipher_key c.args.self.now) c.args.b.now c.args.self.now.rounds (state_of c.state_words.result) (state_of c.decrypt.result)
    (rounds_of-cipher_key c.args.self.now) c.state_words.ensures c.decrypt.ensures
    ∙ ap (inverse_cipher (cipher_key c.args.self.now)) e
    ∙ inverse_cipher-cipher (cipher_key c.args.self.now) block (cipher_key-AreKeys c.args.self.now) octets len

pub returns-clause-undone : goal.returns-clause-undone
returns-clause-undone c =
    ap (cipher (cipher_key c.args.self.now)) (c.block_of.ensures
    ∙ inverse_cipher-is (cipher_key c.args.self.now) c.args.b.now c.args.self.now.rounds (state_of c.state_words.result) (state_of c.decrypt.result)
    (rounds_of-cipher_key c.args.self.now) c.state_words.ensures c.decrypt.ensures)
    ∙ cipher-inverse_cipher (cipher_key c.args.self.now) c.args.b.now (cipher_key-AreKeys c.args.self.now) (λ i. c.fits-b i) c.told-b
