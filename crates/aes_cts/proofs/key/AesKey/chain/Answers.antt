use Rattle.std.proofs.Common.{◌∙◌, ap, sym}
use Rattle.aes_cts.specs.AesKey.{cipher_key}
use Rattle.aes_cts.specs.State.{state_from, state_octets}
use Rattle.aes_cts.specs.Words.{state_of}
use Rattle.aes_cts.specs.Stealing.{add_octets}
use Rattle.aes_cts.proofs.Undoing.{state_from-state_octets, state_octets-state_from}
use Rattle.aes_cts.proofs.Blocks.{cipher-is, rounds_of-cipher_key}
use Rattle.aes_cts.proofs.key.AesKey.chain.Goals as goal

pub returns : goal.returns
returns c =
    let key = cipher_key c.args.self.now in
    let sum = rw (c.state_words.ensures, state_octets-state_from c.args.block.now c.requires) at c.added.ensures in
    let from = sym (state_from-state_octets (state_of c.added.result)) ∙ ap state_from sum in
    cipher-is key (add_octets (state_octets (state_of c.args.before)) c.args.block.now) c.args.self.now.rounds (state_of c.added.result) (state_of c.encrypt.result)
    (rounds_of-cipher_key c.args.self.now) from c.encrypt.ensures
