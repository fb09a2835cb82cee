use Rattle.std.proofs.Common.{◌≡◌, ◌≤◌, false, IsTrue}
use Rattle.sasl_gssapi.specs.declared.accept.SaslAccept.TheVariants.{Asked}
use Rattle.sasl_command.specs.Turns.{seen, Leads}
use Rattle.sasl_command.specs.Serving.{Serves, age, IsSpare}
use Rattle.sasl_command.specs.declared.serving.Stage.TheVariants.{Before}
use Rattle.sasl_command.proofs.serving.serve.Given as goal

abbrev pub invariant-loop-number : goal.invariant-loop-number
invariant-loop-number g l = record {
  ages : age l.stage ≡ l.number;
  spare : IsSpare l.stage;
  told : IsTrue (g.L.Link.tells l.fn.link) → Leads (Serves l.setup) (Before (Asked l.fn.wish)) l.stage (seen g.L.Link g.C.Clock g.D.Draw l.fn.link l.fn.clock l.fn.draw) (seen g.L.Link g.C.Clock g.D.Draw l.link l.clock l.draw);
  tells : g.L.Link.tells l.link ≡ g.L.Link.tells l.fn.link;
  unclosed : g.L.Link.closed l.link ≡ false;
  faults : g.L.Link.faults l.fn.link ≤ g.L.Link.faults l.link;
}
