use Rattle.std.proofs.Common.{◌≡◌, ◌-◌, ◌++◌, ℕ, List, vec_len}
use Rattle.gss_server.specs.Asking.{Asking}
use Rattle.gate_models.specs.Looping.{Unjudged, LoopedTo, GaveTo}
use Rattle.gss_server.specs.Hearing.{serving}
use Rattle.gate_models.proofs.looping.Looping.hear.Given as goal

abbrev pub invariant-loop-self : goal.invariant-loop-self
invariant-loop-self g l = record {
  looped : (first : g.row.G.Denot) → LoopedTo (Unjudged (λ asked. Asking g.G.Gate.answers first asked l.fn.self.gate)) (serving g.G.Gate.program l.fn.self.width) l.fn.self.now l.fn.self.heard.items l.fn.self.said.items l.fn.self.kept.items l.fn.self.cut → LoopedTo (Unjudged (λ asked. Asking g.G.Gate.answers first asked l.self.gate)) (serving g.G.Gate.program l.self.width) l.self.now l.self.heard.items l.self.said.items l.self.kept.items l.self.cut;
  said : (more : List ℕ) × (l.self.said.items ≡ l.fn.self.said.items ++ more);
  heard : l.self.heard ≡ l.fn.self.heard;
  drawn : (before : List ℕ) → GaveTo (g.Q.Draw.tells l.fn.self.draws) (g.Q.Draw.given l.fn.self.draws) before l.fn.self.kept.items → GaveTo (g.Q.Draw.tells l.self.draws) (g.Q.Draw.given l.self.draws) before l.self.kept.items;
  width : l.self.width ≡ l.fn.self.width;
  moment : l.self.now ≡ l.fn.self.now;
}

abbrev pub decreases-loop-self : goal.decreases-loop-self
decreases-loop-self g l = vec_len l.self.heard - l.self.cut
