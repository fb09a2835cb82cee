use Rattle.std.proofs.Common.{◌∙◌, ap, sym, subst, map, Result, Ok}
use Rattle.cli_base.specs.Lines.{Says}
use Rattle.cli_base.specs.declared.given.WordsRefusal.{WordsRefusal}
use Rattle.sasl_options.specs.Endings.{line_of}
use Rattle.sasl_options.specs.Words.{words_of}
use Rattle.sasl_options.specs.declared.words.Words.{Words}
use Rattle.sasl_command.specs.Turns.{seen}
use Rattle.sasl_command.specs.Runs.{names_of}
use Rattle.sasl_command.proofs.Running.{unread-ran}
use Rattle.sasl_command.proofs.run.run_sasl.Goals as goal

pub returns-in-Ok-Serve-clause-said : goal.returns-in-Ok-Serve-clause-said
returns-in-Ok-Serve-clause-said g c = λ t.
    subst (λ (w : Result Words WordsRefusal). Says (g.O.Sink.written c.args.err.now) (g.O.Sink.written c.run_serve.new.err) c.run_serve.result.status (line_of (names_of w) c.run_serve.result.end)) (sym (c.in-Ok-Serve.ensures.value ∙ ap Ok c.in-Ok-Serve.field-0-is)) (rw c.in-Ok-Serve.field-0-is at c.run_serve.ensures.said t)

pub returns-in-Ok-Ask-clause-said : goal.returns-in-Ok-Ask-clause-said
returns-in-Ok-Ask-clause-said g c = λ t.
    subst (λ (w : Result Words WordsRefusal). Says (g.O.Sink.written c.args.err.now) (g.O.Sink.written c.run_ask.new.err) c.run_ask.result.status (line_of (names_of w) c.run_ask.result.end)) (sym (c.in-Ok-Ask.ensures.value ∙ ap Ok c.in-Ok-Ask.field-0-is)) (rw c.in-Ok-Ask.field-0-is at c.run_ask.ensures.said t)

pub returns-in-Err-clause-ran : goal.returns-in-Err-clause-ran
returns-in-Err-clause-ran g c =
    unread-ran g.F.Shelf g.O.Sink c.args.shelf.now c.args.out.now (g.L.Link.tells c.args.link.now) (map (λ b. (goal.Mech-dyn g (b.vtable, b.value)).meaning b.value) c.args.mechs.items) (seen g.L.Link g.C.Clock g.D.Draw c.args.link.now c.args.clock.now c.args.draw.now) c.told.result.status c.told.result.facts c.told.result.end c.in-Err.refusal (words_of c.args.words.now) c.in-Err.ensures.value (c.told.ensures.end ∙ c.end_of_words.ensures) c.told.ensures.facts
