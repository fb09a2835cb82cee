use Rattle.std.proofs.Common.{◌-◌, ◌*◌, ◌%◌, ◌^◌, ◌∙◌, refl, ap, arith, length, length-drop}
use Rattle.std.proofs.lemmas.List.{take_rest}
use Rattle.std.specs.Int.{w64, to_be_bytes}
use Rattle.sha1.specs.Sha1.{padding}
use Rattle.lanes_sha1.proofs.Padding.{block_whole, block_cut, block_end, block_length}
use Rattle.lanes_sha1.proofs.blocks.padded_block.Goals as goal

pub returns-then-start-rest : goal.returns-then-start-rest
returns-then-start-rest c =
    c.length_block.ensures
    ∙ block_length c.args.rest.now (to_be_bytes w64 (c.args.total * 8 % 2 ^ 64)) c.args.i ((119 - c.args.total % 64) % 64)
    (c.args.i * 64 - length c.args.rest.now - 1) (omega arith) refl (omega arith)

pub returns-then-end-ge64 : goal.returns-then-end-ge64
returns-then-end-ge64 c =
    let end = take_rest c.args.rest.now (c.args.i * 64) in
    let cut = ap length end in
    let left = length-drop (c.args.i * 64) c.args.rest.now in
    rw end at c.copy_from_slice.ensures.after
    ∙ block_whole c.args.rest.now (padding c.args.total) c.args.i (omega (arith, cut, left))

pub returns-then-end-ge56 : goal.returns-then-end-ge56
returns-then-end-ge56 c =
    let end = take_rest c.args.rest.now (c.args.i * 64) in
    let cut = ap length end in
    let left = length-drop (c.args.i * 64) c.args.rest.now in
    rw end at c.marked.ensures
    ∙ block_cut c.args.rest.now (to_be_bytes w64 (c.args.total * 8 % 2 ^ 64)) c.args.i ((119 - c.args.total % 64) % 64)
    (omega arith) (omega (arith, cut, left)) (omega (arith, cut, left))

pub returns : goal.returns
returns c =
    let end = take_rest c.args.rest.now (c.args.i * 64) in
    let cut = ap length end in
    let left = length-drop (c.args.i * 64) c.args.rest.now in
    rw end at c.end_block.ensures
    ∙ block_end c.args.rest.now (to_be_bytes w64 (c.args.total * 8 % 2 ^ 64)) c.args.i ((119 - c.args.total % 64) % 64)
    (omega arith) refl (omega (arith, cut, left))
