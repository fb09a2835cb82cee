use Rattle.std.proofs.Common.{◌≡◌, ◌≤◌, ◌*◌}
use Rattle.gss_server.specs.Hearing.{serving}
use Rattle.server_desks.specs.Desks.{DeskWent, NoneWanted}
use Rattle.server_desks.proofs.desk.serve_desk.Given as goal

abbrev pub invariant-loop-number : goal.invariant-loop-number
invariant-loop-number g l = record {
  so_far : (went : DeskWent g.G.Gate.answers (serving g.G.Gate.program l.width) g.P.Port g.P.Link.Link g.C.Clock g.D.Draw g.K.Keeper g.S.Keeper l.fn.gate l.fn.desk l.desk l.gate) × NoneWanted went.served;
  tells : g.P.Port.tells l.desk.port ≡ g.P.Port.tells l.fn.desk.port;
  faults : g.P.Port.faults l.desk.port ≡ g.P.Port.faults l.fn.desk.port;
  count : l.desk.connections ≡ l.number;
  small : l.desk.records ≤ 65536 * l.desk.connections;
  limits : g.G.Gate.limits l.gate ≡ g.G.Gate.limits l.fn.gate;
}
