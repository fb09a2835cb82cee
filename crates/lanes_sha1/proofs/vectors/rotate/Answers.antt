use Rattle.lanes_sha1.proofs.LaneLemmas.{shifts_rotate}
use Rattle.lanes_sha1.proofs.vectors.rotate.Goals as goal

pub returns : goal.returns
returns c = shifts_rotate c.args.bits c.requires.low c.requires.high c.args.x c.fits-x.0
