use Rattle.std.proofs.Common.{◌∙◌}
use Rattle.lanes_sha1.proofs.Padding.{ended}
use Rattle.lanes_sha1.proofs.blocks.end_block.Goals as goal

pub returns : goal.returns
returns c =
    ended c.args.rest.now c.marked-block.result c.copy_from_slice.new.self _ c.requires c.marked-block.ensures
    (c.copy_from_slice.ensures.after ∙ c.to_be_bytes.ensures)
