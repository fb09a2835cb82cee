use Rattle.std.proofs.Math.Logic.{∥∥₁_map}
use Rattle.std.specs.Prelude.{nat_lt}
use Rattle.gate_models.specs.Looping.{Since}
use Rattle.gate_models.proofs.LoopTurns.{loops-of}
use Rattle.gss_server.specs.Hearing.{serving}
use Rattle.gate_models.proofs.loop_link.LoopLink.kept.Goals as goal

pub returns-clause-looped : goal.returns-clause-looped
returns-clause-looped g c =
    let s = c.args.self.now in
    rw (← s.wide, ← s.stopped, c.as_slice.ensures.value) (∥∥₁_map s.looped (loops-of (Since g.J.Beginning.begins g.G.Gate.answers s.inner.gate) (serving g.G.Gate.program s.inner.width) s.inner.now s.at s.inner.cut s.inner.heard.items s.inner.said.items s.inner.kept.items (nat_lt 0 s.faults)))

pub returns-clause-drawn : goal.returns-clause-drawn
returns-clause-drawn g c = rw (c.as_slice.ensures.value) c.args.self.now.drawn
