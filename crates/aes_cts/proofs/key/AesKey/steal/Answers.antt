use Rattle.std.proofs.Common.{ℕ, ◌-◌, ◌*◌, ◌∙◌, refl, arith, length}
use Rattle.aes_cts.specs.AesKey.{cipher_key}
use Rattle.aes_cts.specs.State.{state_octets}
use Rattle.aes_cts.specs.Words.{state_of}
use Rattle.aes_cts.proofs.Stolen.{stolen-is}
use Rattle.aes_cts.proofs.key.AesKey.steal.Goals as goal

pub returns : goal.returns
returns c =
    let n : ℕ = c.args.count in
    let k : ℕ = length c.encrypt_blocks-before.new.bytes - 16 * n in
    stolen-is (cipher_key c.args.self.now) c.args.bytes.now c.encrypt_blocks-before.new.bytes c.copy_from_slice.new.self c.copy_from_slice-2.new.self c.copy_from_slice-3.new.self
    (state_octets (state_of c.encrypt_blocks-before.result)) (state_octets (state_of c.chain-whole.result)) k (16 * n - (16 * n - 16)) n
    c.requires.some c.requires.low c.requires.high c.encrypt_blocks-before.ensures.bytes c.encrypt_blocks-before.ensures.last refl (omega arith)
    c.copy_from_slice.ensures.after c.chain-whole.ensures (rw c.block_of.ensures at c.copy_from_slice-2.ensures.after)
    (c.copy_from_slice-3.ensures.after ∙ c.block_of-2.ensures)
