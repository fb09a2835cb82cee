use Rattle.std.proofs.Common.{◌<◌, ◌≤◌, ◌∙◌, ap, arith, length, refl}
use Rattle.aes_cts.specs.AesKey.{cipher_key}
use Rattle.aes_cts.specs.Words.{state_of}
use Rattle.aes_cts.specs.Stealing.{cts_encrypted, cts_decrypted}
use Rattle.aes_cts.proofs.Blocks.{inverse_cipher-is, rounds_of-cipher_key, cipher_key-AreKeys}
use Rattle.aes_cts.proofs.Restored.{cts_decrypted-single, cts_decrypted-more, cts_decrypted-cts_encrypted}
use Rattle.aes_cts.proofs.Resealed.{cts_encrypted-cts_decrypted}
use Rattle.aes_cts.proofs.key.AesKey.cts_decrypt.Goals as goal

pub returns-then-count-eq0 : goal.returns-then-count-eq0
returns-then-count-eq0 c =
    let key = cipher_key c.args.self.now in
    let octets = c.args.bytes.now in
    let keys = cipher_key-AreKeys c.args.self.now in
    let single : length octets ≤ 16 = omega arith in
    let made = c.copy_from_slice.ensures.after ∙ c.block_of.ensures
    ∙ inverse_cipher-is key octets c.args.self.now.rounds (state_of c.state_words.result) (state_of c.decrypt-whole.result)
    (rounds_of-cipher_key c.args.self.now) c.state_words.ensures c.decrypt-whole.ensures in
    let value = made ∙ rw (cts_decrypted-single key octets single) refl in
    record {
      value = value;
      undoes = λ plain h some e. value ∙ ap (cts_decrypted key) e ∙ cts_decrypted-cts_encrypted key keys plain h some;
      undone = λ h. ap (cts_encrypted key) value ∙ cts_encrypted-cts_decrypted key keys octets h c.requires;
    }

pub returns-else-count-eq0 : goal.returns-else-count-eq0
returns-else-count-eq0 c =
    let key = cipher_key c.args.self.now in
    let octets = c.args.bytes.now in
    let keys = cipher_key-AreKeys c.args.self.now in
    let more : 16 < length octets = omega arith in
    let value = c.give_back.ensures ∙ rw (cts_decrypted-more key octets more) refl in
    record {
      value = value;
      undoes = λ plain h some e. value ∙ ap (cts_decrypted key) e ∙ cts_decrypted-cts_encrypted key keys plain h some;
      undone = λ h. ap (cts_encrypted key) value ∙ cts_encrypted-cts_decrypted key keys octets h c.requires;
    }
