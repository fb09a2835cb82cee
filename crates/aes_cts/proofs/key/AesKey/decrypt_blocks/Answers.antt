use Rattle.std.proofs.Common.{◌≡◌, ◌+◌, ◌-◌, ◌*◌, ◌≤◌, ◌∙◌, ap, refl, arith, drop, length, add-one}
use Rattle.std.proofs.lemmas.List.{length-take-le, length-drop}
use Rattle.aes_cts.specs.AesKey.{cipher_key}
use Rattle.aes_cts.specs.State.{state_octets, column_of}
use Rattle.aes_cts.specs.Words.{state_of}
use Rattle.aes_cts.specs.Stealing.{block_at, unchained}
use Rattle.aes_cts.proofs.Undoing.{length-state_octets, state_octets-state_from}
use Rattle.aes_cts.proofs.Blocks.{inverse_cipher-is, rounds_of-cipher_key}
use Rattle.aes_cts.proofs.Chaining.{length-unchained, unblocks_more, part_is, length-put_mid}
use Rattle.aes_cts.proofs.key.AesKey.decrypt_blocks.Goals as goal

pub each-init : goal.each-init
unfolding unchained state_octets state_of column_of
each-init c = (refl, refl, refl)

pub slice_bounds-state_words-end : goal.slice_bounds-state_words-end
slice_bounds-state_words-end c = omega (arith, c.each.invariant.0)

pub each-preserved : goal.each-preserved
each-preserved c =
    let key = cipher_key c.args.self.now in
    let octets = c.args.bytes.now in
    let i = c.each.i in
    let within : 16 * i + 16 ≤ length octets = omega arith in
    let size : 16 * i + 16 - 16 * i ≡ 16 = omega arith in
    let block = part_is (unchained key octets i) octets c.each.bytes i (16 * i + 16 - 16 * i) c.each.invariant.1 (length-unchained key octets i (omega arith)) size in
    let long : length (block_at octets i) ≡ 16 = length-take-le 16 (drop (16 * i) octets) (omega (arith, length-drop (16 * i) octets)) in
    let read = rw block at c.state_words-block.ensures in
    let deciphered = inverse_cipher-is key (block_at octets i) c.args.self.now.rounds (state_of c.state_words-block.result) (state_of c.decrypt.result)
    (rounds_of-cipher_key c.args.self.now) read c.decrypt.ensures in
    let written = c.copy_from_slice.ensures.after ∙ c.block_of.ensures in
    let sum = rw (deciphered, c.each.invariant.2) at c.added-plain.ensures in (
      length-put_mid c.each.bytes c.copy_from_slice.new.self i (16 * i + 16 - 16 * i) (omega (arith, c.each.invariant.0)) size
          (ap length written ∙ length-state_octets (state_of c.added-plain.result)) ∙ c.each.invariant.0,
      unblocks_more key octets c.each.bytes c.copy_from_slice.new.self i (16 * i + 16 - 16 * i) c.each.invariant.1 size (omega arith) (written ∙ sum),
      rw add-one (ap state_octets read ∙ state_octets-state_from (block_at octets i) long),
    )

pub shape_of-bytes : goal.shape_of-bytes
shape_of-bytes c = c.each.invariant.0

pub returns : goal.returns
returns c =
    let done : c.each.i ≡ c.args.count = omega arith in
    rw done at c.each.invariant.1
