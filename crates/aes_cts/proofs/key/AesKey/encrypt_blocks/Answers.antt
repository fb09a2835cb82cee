use Rattle.std.proofs.Common.{◌≡◌, ◌+◌, ◌-◌, ◌*◌, ◌∙◌, ap, refl, arith, take, drop, length}
use Rattle.aes_cts.specs.AesKey.{cipher_key}
use Rattle.aes_cts.specs.State.{state_octets, column_of}
use Rattle.aes_cts.specs.Words.{state_of}
use Rattle.aes_cts.specs.Stealing.{chain, chained}
use Rattle.aes_cts.proofs.Undoing.{length-state_octets}
use Rattle.aes_cts.proofs.Chaining.{length-chained, blocks_more, chain_more, part_is, length-put_mid}
use Rattle.aes_cts.proofs.key.AesKey.encrypt_blocks.Goals as goal

pub each-init : goal.each-init
unfolding chain chained state_octets state_of column_of
each-init c = (refl, refl, refl)

pub slice_bounds-chain-end : goal.slice_bounds-chain-end
slice_bounds-chain-end c = omega (arith, c.each.invariant.0)

pub each-preserved : goal.each-preserved
each-preserved c =
    let key = cipher_key c.args.self.now in
    let plain = c.args.bytes.now in
    let i = c.each.i in
    let size : 16 * i + 16 - 16 * i ≡ 16 = omega arith in
    let block = part_is (chained key plain i) plain c.each.bytes i (16 * i + 16 - 16 * i) c.each.invariant.1 (length-chained key plain i) size in
    let made = chain_more key plain (state_octets (state_of c.each.before)) (take (16 * i + 16 - 16 * i) (drop (16 * i) c.each.bytes))
    (state_octets (state_of c.chain-before.result)) i c.each.invariant.2 block c.chain-before.ensures in
    let written = c.copy_from_slice.ensures.after ∙ c.block_of.ensures in (
      length-put_mid c.each.bytes c.copy_from_slice.new.self i (16 * i + 16 - 16 * i) (omega (arith, c.each.invariant.0)) size
          (ap length written ∙ length-state_octets (state_of c.chain-before.result)) ∙ c.each.invariant.0,
      blocks_more key plain c.each.bytes c.copy_from_slice.new.self i (16 * i + 16 - 16 * i) c.each.invariant.1 size (written ∙ made),
      made,
    )

pub shape_of-bytes : goal.shape_of-bytes
shape_of-bytes c = c.each.invariant.0

pub returns : goal.returns
returns c =
    let done : c.each.i ≡ c.args.count = omega arith in
    record { bytes = rw done at c.each.invariant.1; last = rw done at c.each.invariant.2 }
