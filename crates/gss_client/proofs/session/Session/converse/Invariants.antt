use Rattle.std.proofs.Common.{◌≡◌, ◌≤◌, ◌-◌, false, IsTrue}
use Rattle.gss_client.proofs.InConversation.{Held}
use Rattle.gss_client.proofs.session.Session.converse.Given as goal

abbrev pub invariant-loop-number : goal.invariant-loop-number
invariant-loop-number g l = record {
  told : IsTrue (g.L.Link.tells l.fn.link) → Held (g.D.Draw.tells l.draw) (g.D.Draw.given l.fn.draw) (g.D.Draw.given l.draw) l.fn.times (l.fn.times - l.number) (g.Q.Query.says l.fn.query) l.fn.args l.fn.self (g.L.Link.wire l.fn.link) (g.L.Link.wire l.link) l.session l.results.items;
  tells : g.L.Link.tells l.link ≡ g.L.Link.tells l.fn.link;
  unclosed : g.L.Link.closed l.link ≡ false;
  faults : g.L.Link.faults l.fn.link ≤ g.L.Link.faults l.link;
  drawing : IsTrue (g.D.Draw.tells l.draw) → IsTrue (g.D.Draw.tells l.fn.draw);
}
