use Rattle.std.proofs.Common.{◌≡◌, ◌≤◌}
use Rattle.gss_server.specs.Keeping.{Makes}
use Rattle.gss_server.specs.Hearing.{serving}
use Rattle.rpc_datagram.specs.declared.serving.ServeEnd.TheVariants.{Done}
use Rattle.rpc_datagram.specs.Served.{DatagramsServed}
use Rattle.rpc_datagram.proofs.serving.serve.Given as goal

abbrev pub invariant-loop : goal.invariant-loop
invariant-loop g l = record {
  served : Makes g.K.Keeper g.C.Clock g.D.Draw l.fn.keeper l.keeper l.fn.clock l.clock l.fn.draw l.draw (λ kept. DatagramsServed g.P.Post g.G.Gate (serving g.G.Gate.program l.width) l.counter l.fn.post l.post l.fn.gate l.gate Done kept);
  tells : g.P.Post.tells l.post ≡ g.P.Post.tells l.fn.post;
  faults : g.P.Post.faults l.fn.post ≤ g.P.Post.faults l.post;
  limits : g.G.Gate.limits l.gate.gate ≡ g.G.Gate.limits l.fn.gate.gate;
}
