use Rattle.std.proofs.Common.{length}
use Rattle.replay_journal.specs.declared.memory.Range.{Range}
use Rattle.replay_journal.proofs.Stages.{torn-same, more-leaves, before-more}
use Rattle.replay_journal.proofs.memory.put.Goals as goal

pub returns-clause-crash : goal.returns-clause-crash
returns-clause-crash c c' left =
    let range : Range = record { at = c.args.at; count = length c.args.new.now } in
    before-more c.args.stage.now.base.items c.args.stage.now.ranges.items range c' (rw (← c.in_ok-note.ensures.more) (rw c.note.ensures.base at left))

pub returns-clause-keeps : goal.returns-clause-keeps
returns-clause-keeps c c' left =
    let range : Range = record { at = c.args.at; count = length c.args.new.now } in
    rw (c.note.ensures.base, c.in_ok-note.ensures.more) (more-leaves c.args.stage.now.base.items c.args.stage.now.ranges.items range c' c' left (torn-same c.args.at (length c.args.new.now) c'))
