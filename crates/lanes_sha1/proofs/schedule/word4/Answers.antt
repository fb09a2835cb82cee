use Rattle.std.proofs.Common.{lit<}
use Rattle.lanes_sha1.proofs.LaneLemmas.{below_four, read_at}
use Rattle.lanes_sha1.proofs.schedule.word4.Goals as goal

pub word-requires : goal.word-requires
word-requires c = rw (read_at c.args.blocks.now 0) (c.requires 0 (lit< tt))

pub word-requires-2 : goal.word-requires-2
word-requires-2 c = rw (read_at c.args.blocks.now 1) (c.requires 1 (lit< tt))

pub word-requires-3 : goal.word-requires-3
word-requires-3 c = rw (read_at c.args.blocks.now 2) (c.requires 2 (lit< tt))

pub word-requires-4 : goal.word-requires-4
word-requires-4 c = rw (read_at c.args.blocks.now 3) (c.requires 3 (lit< tt))

pub returns : goal.returns
returns c =
    below_four _
    (rw (read_at c.args.blocks.now 0) at c.word.ensures)
    (rw (read_at c.args.blocks.now 1) at c.word-2.ensures)
    (rw (read_at c.args.blocks.now 2) at c.word-3.ensures)
    (rw (read_at c.args.blocks.now 3) at c.word-4.ensures)
