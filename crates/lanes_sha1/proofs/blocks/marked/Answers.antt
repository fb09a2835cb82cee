use Rattle.lanes_sha1.proofs.Padding.{marked}
use Rattle.lanes_sha1.proofs.blocks.marked.Goals as goal

pub returns : goal.returns
returns c = marked c.args.rest.now c.copy_from_slice.new.self c.requires c.copy_from_slice.ensures.after
