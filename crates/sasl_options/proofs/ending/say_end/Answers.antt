use Rattle.std.proofs.Common.{arith, sym, subst}
use Rattle.cli_base.specs.Lines.{Says}
use Rattle.sasl_options.specs.Endings.{line_of}
use Rattle.sasl_options.specs.declared.ending.RunEnd.{RunEnd}
use Rattle.sasl_options.proofs.Saying.{known-said}
use Rattle.sasl_options.proofs.ending.say_end.Goals as goal

pub returns-in-Usage-clause-said : goal.returns-in-Usage-clause-said
returns-in-Usage-clause-said g c = λ t.
    subst (λ (end : RunEnd). Says (g.O.Sink.written c.args.err.now) (g.O.Sink.written c.say.new.sink) c.say.result (line_of c.args.names.now end))
    (sym c.in-Usage.is) (known-said 2 (λ q. omega arith) c.say.ensures.status (c.say.ensures.said t))

pub returns-in-LinkFault-clause-said : goal.returns-in-LinkFault-clause-said
returns-in-LinkFault-clause-said g c = λ t.
    subst (λ (end : RunEnd). Says (g.O.Sink.written c.args.err.now) (g.O.Sink.written c.say-in-LinkFault.new.sink) c.say-in-LinkFault.result (line_of c.args.names.now end))
    (sym c.in-LinkFault.is) (known-said 5 (λ q. omega arith) c.say-in-LinkFault.ensures.status (c.say-in-LinkFault.ensures.said t))

pub returns-in-PeerEnded-clause-said : goal.returns-in-PeerEnded-clause-said
returns-in-PeerEnded-clause-said g c = λ t.
    subst (λ (end : RunEnd). Says (g.O.Sink.written c.args.err.now) (g.O.Sink.written c.say-in-PeerEnded.new.sink) c.say-in-PeerEnded.result (line_of c.args.names.now end))
    (sym c.in-PeerEnded.is) (known-said 9 (λ q. omega arith) c.say-in-PeerEnded.ensures.status (c.say-in-PeerEnded.ensures.said t))
