use Rattle.std.proofs.Common.{◌≡◌, ◌≤◌, ◌∙◌, refl, ap}
use Rattle.stream_buffers.specs.Behind.{held}
use Rattle.stream_buffers.proofs.Leaving.{wrote-first, none-waited}
use Rattle.stream_buffers.proofs.buffered.BufferedLink.close.Goals.{then-self, else-self}
use Rattle.stream_buffers.proofs.buffered.BufferedLink.close.Goals as goal

pub returns-clause-sent : goal.returns-clause-sent
returns-clause-sent g c = elim c.if-self.branch [
  | then-self w ↦
      let same : g.L.Link.wire c.if-self.self.link ≡ g.L.Link.wire w.flush.new.self.link = rw w.self-is refl in
      let more : g.L.Link.faults w.flush.new.self.link ≤ g.L.Link.faults c.shut.new.self.link = rw (← w.self-is) c.shut.ensures.faults in
      wrote-first (g.L.Link.tells c.args.self.now.link) (g.L.Link.wire c.args.self.now.link) (g.L.Link.wire w.flush.new.self.link) (g.L.Link.wire c.shut.new.self.link)
      (g.L.Link.faults c.args.self.now.link) (g.L.Link.faults w.flush.new.self.link) (g.L.Link.faults c.shut.new.self.link) w.flush.result (held c.args.self.now.behind)
      w.flush.ensures.told w.flush.ensures.fault more (c.shut.ensures.told ∙ same)
  | else-self w ↦
      let same : g.L.Link.wire c.if-self.self.link ≡ g.L.Link.wire c.args.self.now.link = rw w.self-is refl in
      none-waited (g.L.Link.tells c.args.self.now.link) (g.L.Link.wire c.args.self.now.link) (g.L.Link.wire c.shut.new.self.link)
      (g.L.Link.faults c.args.self.now.link) (g.L.Link.faults c.shut.new.self.link) (held c.args.self.now.behind)
      (c.args.self.now.idle w.if-self.false) (c.shut.ensures.told ∙ same)
]
