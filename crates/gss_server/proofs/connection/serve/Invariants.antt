use Rattle.std.proofs.Common.{◌≡◌, length}
use Rattle.gss_server.specs.Hearing.{serving}
use Rattle.gss_server.specs.Keeping.{Makes}
use Rattle.gss_server.specs.Ruled.{Questions}
use Rattle.gss_server.specs.Underway.{Underway}
use Rattle.gss_server.specs.Steady.{LinkKept, GateKept}
use Rattle.gss_server.proofs.connection.serve.Given as goal

abbrev pub invariant-loop-number : goal.invariant-loop-number
invariant-loop-number g l = record {
  served : Makes g.K.Keeper g.C.Clock g.D.Draw l.fn.keeper l.keeper l.fn.clock l.clock l.fn.draw l.draw (λ kept. (l.course.records ≡ length kept) × Underway (g.L.Link.tells l.fn.link) (Questions g.G.Gate 131072 l.fn.gate l.gate) (serving g.G.Gate.program l.width) (g.L.Link.wire l.fn.link) (g.L.Link.wire l.link) l.number kept);
  count : l.course.records ≡ l.number;
  link_kept : LinkKept g.L.Link l.fn.link l.link;
  link_steady : g.L.Link.faults l.link ≡ g.L.Link.faults l.fn.link;
  gate_kept : GateKept g.G.Gate l.fn.gate l.gate;
}
