use Rattle.std.proofs.Common.{◌≡◌, ◌≤◌, drop, false, IsTrue}
use Rattle.gss_client.specs.Conferring.{calls_of}
use Rattle.gss_client.proofs.InConference.{Held}
use Rattle.gss_client.proofs.conference.confer.Given as goal

abbrev pub invariant-loop-call : goal.invariant-loop-call
invariant-loop-call g l = record {
  told : IsTrue (g.L.Link.tells l.fn.link) → Held (g.D.Draw.tells l.draw) (g.D.Draw.given l.fn.draw) (g.D.Draw.given l.draw) (calls_of g.Q.Query.says l.fn.due) (calls_of g.Q.Query.says (drop l.call-index l.fn.due)) l.fn.session (g.L.Link.wire l.fn.link) (g.L.Link.wire l.link) l.state l.results.items;
  tells : g.L.Link.tells l.link ≡ g.L.Link.tells l.fn.link;
  unclosed : g.L.Link.closed l.link ≡ false;
  faults : g.L.Link.faults l.fn.link ≤ g.L.Link.faults l.link;
  drawing : IsTrue (g.D.Draw.tells l.draw) → IsTrue (g.D.Draw.tells l.fn.draw);
}
