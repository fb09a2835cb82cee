use Rattle.std.proofs.Common.{arith, refl}
use Rattle.gate_models.specs.Looping.{Since}
use Rattle.gate_models.proofs.LoopTurns.{looped-none, gave-none}
use Rattle.gss_server.specs.Hearing.{serving}
use Rattle.gate_models.proofs.loop_link.LoopLink.new.Goals as goal

pub invariant_of-result : goal.invariant_of-result
invariant_of-result g c = record {
  wide = c.requires.width;
  stopped = c.requires.moment;
  within = omega arith;
  looped = ∣ rw (c.new.ensures.items, c.new-2.ensures.items, c.new-3.ensures.items) (looped-none (Since g.J.Beginning.begins g.G.Gate.answers c.args.gate) (c.args.gate, c.requires.begins, refl) (serving g.G.Gate.program c.args.width) c.args.now) ∣₁;
  drawn = rw (c.new-3.ensures.items) (gave-none (g.Q.Draw.tells c.args.draws) (g.Q.Draw.given c.args.draws) g.J.Beginning.given c.requires.given);
}
