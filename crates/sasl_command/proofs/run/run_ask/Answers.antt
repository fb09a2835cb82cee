use Rattle.std.proofs.Common.{sym, subst, map, ℕ, List, Option, Ok}
use Rattle.sasl_layer.specs.declared.facts.LayerFacts.{LayerFacts}
use Rattle.sasl_command.specs.Turns.{seen}
use Rattle.sasl_command.specs.Printing.{Prints, lines}
use Rattle.sasl_command.specs.Runs.{SpokeBy, armed_all}
use Rattle.sasl_command.proofs.run.run_ask.Goals as goal

pub returns-in-Ok-clause-ran : goal.returns-in-Ok-clause-ran
returns-in-Ok-clause-ran g c = record {
  credential = Ok c.in-Ok.credential;
  read = rw c.as_str-2.ensures at c.in-Ok.ensures.value;
  ran = record {
    echo = c.ask_with-ran.result.echo;
    parted = c.ask_with-ran.result.end;
    spoke = λ t. subst (λ (f : Option LayerFacts). SpokeBy (armed_all (map (λ b. (goal.Mech-dyn g (b.vtable, b.value)).meaning b.value) c.args.mechs.items) c.in-Ok.credential) c.args.words.wished c.args.words.octets (seen g.L.Link g.C.Clock g.D.Draw c.args.link.now c.args.clock.now c.args.draw.now) (seen g.L.Link g.C.Clock g.D.Draw c.ask_with-ran.new.link c.ask_with-ran.new.clock c.ask_with-ran.new.draw) f c.ask_with-ran.result.echo c.ask_with-ran.result.end) (sym c.report.ensures.facts) (subst (λ (o : List ℕ). SpokeBy (armed_all (map (λ b. (goal.Mech-dyn g (b.vtable, b.value)).meaning b.value) c.args.mechs.items) c.in-Ok.credential) c.args.words.wished o (seen g.L.Link g.C.Clock g.D.Draw c.args.link.now c.args.clock.now c.args.draw.now) (seen g.L.Link g.C.Clock g.D.Draw c.ask_with-ran.new.link c.ask_with-ran.new.clock c.ask_with-ran.new.draw) c.ask_with-ran.result.facts c.ask_with-ran.result.echo c.ask_with-ran.result.end) c.as_slice-sending.ensures (c.ask_with-ran.ensures.told t));
    ends = c.report.ensures.ends;
    printed = λ t. subst (λ (f : Option LayerFacts). Prints (g.O.Sink.written c.args.out.now) (g.O.Sink.written c.report.new.out) c.report.result.status (lines f c.ask_with-ran.result.echo)) (sym c.report.ensures.facts) (c.report.ensures.printed t);
  };
}
