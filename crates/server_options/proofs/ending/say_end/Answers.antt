use Rattle.std.proofs.Common.{arith, sym, subst}
use Rattle.cli_base.specs.Lines.{Says}
use Rattle.server_options.specs.Lines.{line_of}
use Rattle.server_options.specs.declared.ending.RunEnd.{RunEnd}
use Rattle.server_options.proofs.StatusLines.{known-said, memory-said}
use Rattle.server_options.proofs.ending.say_end.Goals as goal

pub returns-in-Usage-clause-said : goal.returns-in-Usage-clause-said
returns-in-Usage-clause-said g c = λ t.
    subst (λ (end : RunEnd). Says (g.O.Sink.written c.args.err.now) (g.O.Sink.written c.say.new.sink) c.say.result (line_of c.args.names.now c.args.counts.now end))
    (sym c.in-Usage.is) (known-said 2 (omega arith) c.say.ensures.status (c.say.ensures.said t))

pub returns-in-NoMemory-clause-said : goal.returns-in-NoMemory-clause-said
returns-in-NoMemory-clause-said g c = λ t.
    subst (λ (end : RunEnd). Says (g.O.Sink.written c.args.err.now) (g.O.Sink.written c.say-in-NoMemory.new.sink) c.say-in-NoMemory.result (line_of c.args.names.now c.args.counts.now end))
    (sym c.in-NoMemory.is) (memory-said c.say-in-NoMemory.ensures.status (c.say-in-NoMemory.ensures.said t))
