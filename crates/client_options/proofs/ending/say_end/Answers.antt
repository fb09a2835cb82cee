use Rattle.std.proofs.Common.{arith, sym, subst}
use Rattle.cli_base.specs.Lines.{Says}
use Rattle.client_options.specs.Endings.{line_of}
use Rattle.client_options.specs.declared.ending.RunEnd.{RunEnd}
use Rattle.client_options.proofs.Saying.{known-said, memory-said}
use Rattle.client_options.proofs.ending.say_end.Goals as goal

pub returns-in-Usage-clause-said : goal.returns-in-Usage-clause-said
returns-in-Usage-clause-said g c = λ t.
    subst (λ (end : RunEnd). Says (g.O.Sink.written c.args.err.now) (g.O.Sink.written c.say.new.sink) c.say.result (line_of c.args.names.now end))
    (sym c.in-Usage.is) (known-said 2 (λ q. omega arith) c.say.ensures.status (c.say.ensures.said t))

pub returns-in-NoMemory-clause-said : goal.returns-in-NoMemory-clause-said
returns-in-NoMemory-clause-said g c = λ t.
    subst (λ (end : RunEnd). Says (g.O.Sink.written c.args.err.now) (g.O.Sink.written c.say-in-NoMemory.new.sink) c.say-in-NoMemory.result (line_of c.args.names.now end))
    (sym c.in-NoMemory.is) (memory-said c.say-in-NoMemory.ensures.status (c.say-in-NoMemory.ensures.said t))

pub returns-in-LinkFault-clause-said : goal.returns-in-LinkFault-clause-said
returns-in-LinkFault-clause-said g c = λ t.
    subst (λ (end : RunEnd). Says (g.O.Sink.written c.args.err.now) (g.O.Sink.written c.say-in-LinkFault.new.sink) c.say-in-LinkFault.result (line_of c.args.names.now end))
    (sym c.in-LinkFault.is) (known-said 5 (λ q. omega arith) c.say-in-LinkFault.ensures.status (c.say-in-LinkFault.ensures.said t))

pub returns-in-PeerEnded-clause-said : goal.returns-in-PeerEnded-clause-said
returns-in-PeerEnded-clause-said g c = λ t.
    subst (λ (end : RunEnd). Says (g.O.Sink.written c.args.err.now) (g.O.Sink.written c.say-in-PeerEnded.new.sink) c.say-in-PeerEnded.result (line_of c.args.names.now end))
    (sym c.in-PeerEnded.is) (known-said 9 (λ q. omega arith) c.say-in-PeerEnded.ensures.status (c.say-in-PeerEnded.ensures.said t))

pub returns-in-BadReply-clause-said : goal.returns-in-BadReply-clause-said
returns-in-BadReply-clause-said g c = λ t.
    subst (λ (end : RunEnd). Says (g.O.Sink.written c.args.err.now) (g.O.Sink.written c.say-in-BadReply.new.sink) c.say-in-BadReply.result (line_of c.args.names.now end))
    (sym c.in-BadReply.is) (known-said 12 (λ q. omega arith) c.say-in-BadReply.ensures.status (c.say-in-BadReply.ensures.said t))

pub returns-in-Foreign-clause-said : goal.returns-in-Foreign-clause-said
returns-in-Foreign-clause-said g c = λ t.
    subst (λ (end : RunEnd). Says (g.O.Sink.written c.args.err.now) (g.O.Sink.written c.say-in-Foreign.new.sink) c.say-in-Foreign.result (line_of c.args.names.now end))
    (sym c.in-Foreign.is) (known-said 12 (λ q. omega arith) c.say-in-Foreign.ensures.status (c.say-in-Foreign.ensures.said t))

pub returns-in-Spent-clause-said : goal.returns-in-Spent-clause-said
returns-in-Spent-clause-said g c = λ t.
    subst (λ (end : RunEnd). Says (g.O.Sink.written c.args.err.now) (g.O.Sink.written c.say-in-Spent.new.sink) c.say-in-Spent.result (line_of c.args.names.now end))
    (sym c.in-Spent.is) (known-said 13 (λ q. omega arith) c.say-in-Spent.ensures.status (c.say-in-Spent.ensures.said t))
