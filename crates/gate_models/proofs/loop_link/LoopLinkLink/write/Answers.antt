use Rattle.std.proofs.Common.{◌≡◌, ◌∙◌, Bool, false, ℕ, length, ap, sym, subst, arith}
use Rattle.std.proofs.Math.Logic.{∥∥₁_map}
use Rattle.std.proofs.lemmas.Bool.Decides.{nat_tests}
use Rattle.std.proofs.lemmas.List.{length-append}
use Rattle.std.specs.Prelude.{nat_lt, not}
use Rattle.gate_models.specs.Looping.{Looped, Since}
use Rattle.gate_models.proofs.LoopTurns.{still-starved, looped-since}
use Rattle.gss_server.specs.Hearing.{serving}
use Rattle.gate_models.proofs.loop_link.LoopLinkLink.write.Goals as goal

pub invariant_of-self : goal.invariant_of-self
invariant_of-self g c =
    let s = c.args.self.now in
    let B = Since g.J.Beginning.begins g.G.Gate.answers s.inner.gate in record {
      wide = s.wide;
      stopped = s.stopped;
      within = s.within;
      looped = ∥∥₁_map s.looped (λ p. subst (λ (b : Bool). Looped B (serving g.G.Gate.program s.inner.width) s.inner.now s.inner.heard.items s.inner.said.items s.inner.kept.items s.inner.cut b) (still-starved s.faults c.saturating_add-self.result c.if-self-gt0.true (omega (arith, c.if-self-gt0.true, c.saturating_add-self.ensures))) p);
      drawn = s.drawn;
    }

pub invariant_of-self-then-take : goal.invariant_of-self-then-take
invariant_of-self-then-take g c =
    let s = c.args.self.now in
    let t = c.take.new.self in
    let B = g.J.Beginning.begins in
    let A = g.G.Gate.answers in
    let fed : nat_lt 0 s.faults ≡ false = grind (arith, nat_tests) in
    let more = c.take.ensures.said in record {
      wide = c.take.ensures.width ∙ s.wide;
      stopped = c.take.ensures.moment ∙ s.stopped;
      within = omega (arith, s.within, ap (length {A = ℕ}) more.1, length-append s.inner.said.items more.0);
      looped = ∥∥₁_map s.looped (λ p. subst (λ (b : Bool). Looped (Since B A t.gate) (serving g.G.Gate.program t.width) t.now t.heard.items t.said.items t.kept.items t.cut b) (sym fed)
          (looped-since B A s.inner.gate t.gate (serving g.G.Gate.program s.inner.width) (serving g.G.Gate.program t.width) s.inner.now t.now s.inner.heard.items t.heard.items s.inner.said.items t.said.items s.inner.kept.items t.kept.items s.inner.cut t.cut false c.if-take.ensures.looped
          (subst (λ (b : Bool). Looped (Since B A s.inner.gate) (serving g.G.Gate.program s.inner.width) s.inner.now s.inner.heard.items s.inner.said.items s.inner.kept.items s.inner.cut b) fed p)));
      drawn = c.take.ensures.drawn g.J.Beginning.given s.drawn;
    }

pub invariant_of-self-2 : goal.invariant_of-self-2
invariant_of-self-2 g c =
    let s = c.args.self.now in
    let t = c.take.new.self in
    let B = g.J.Beginning.begins in
    let A = g.G.Gate.answers in
    let fed : nat_lt 0 s.faults ≡ false = grind (arith, nat_tests) in
    let more = c.take.ensures.said in record {
      wide = c.take.ensures.width ∙ s.wide;
      stopped = c.take.ensures.moment ∙ s.stopped;
      within = omega (arith, s.within, ap (length {A = ℕ}) more.1, length-append s.inner.said.items more.0);
      looped = ∥∥₁_map s.looped (λ p. looped-since B A s.inner.gate t.gate (serving g.G.Gate.program s.inner.width) (serving g.G.Gate.program t.width) s.inner.now t.now s.inner.heard.items t.heard.items s.inner.said.items t.said.items s.inner.kept.items t.kept.items s.inner.cut t.cut (not false) c.if-take.ensures.looped
          (subst (λ (b : Bool). Looped (Since B A s.inner.gate) (serving g.G.Gate.program s.inner.width) s.inner.now s.inner.heard.items s.inner.said.items s.inner.kept.items s.inner.cut b) fed p));
      drawn = c.take.ensures.drawn g.J.Beginning.given s.drawn;
    }
