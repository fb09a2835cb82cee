use Rattle.std.proofs.Common.{inr, refl}
use Rattle.client_command.proofs.Saying.{unprinted}
use Rattle.datagram_calls.proofs.Ends.{reported-session, reported-fault, reported-all, stopped-unfinished, stopped-no-fault}
use Rattle.datagram_calls.proofs.running.run_by.Goals as goal

pub speak-spoken-requires-clause-list : goal.speak-spoken-requires-clause-list
speak-spoken-requires-clause-list g c = rw c.in-Ok.is at c.requires.own

pub speak-spoken-requires-clause-bare : goal.speak-spoken-requires-clause-bare
speak-spoken-requires-clause-bare g c = λ off. rw c.in-Ok.is at c.requires.bare off

pub returns-in-Ok-clause-behind : goal.returns-in-Ok-clause-behind
returns-in-Ok-clause-behind g c = rw c.in-Ok.is (record {
  begun = reported-session c.speak-spoken.ensures.session_end c.report.ensures.kept;
  spoke = λ t. record {
    agreed = c.speak-spoken.result.outcome;
    answered = c.speak-spoken.result.results.items;
    ended = c.speak-spoken.result.end;
    speaks = c.speak-spoken.ensures.told t;
    reports = c.report.ensures.kept;
  };
})

pub returns-in-Ok-clause-all : goal.returns-in-Ok-clause-all
returns-in-Ok-clause-all g c = reported-all c.speak-spoken.ensures.all c.report.ensures.kept

pub returns-in-Ok-clause-fault : goal.returns-in-Ok-clause-fault
returns-in-Ok-clause-fault g c = λ e. c.speak-spoken.ensures.fault (reported-fault c.report.ensures.kept e)

pub returns-in-Err-clause-behind : goal.returns-in-Err-clause-behind
returns-in-Err-clause-behind g c = rw c.in-Err.is (record {
  ends = c.unspoken.ensures.end;
  same = refl;
  untimed = refl;
  undrawn = refl;
  none = c.unspoken.ensures.outcome;
  empty = c.unspoken.ensures.results;
})

pub returns-in-Err-clause-all : goal.returns-in-Err-clause-all
returns-in-Err-clause-all g c = stopped-unfinished c.in-Err.end (rw c.in-Err.is at c.requires.unbegun) c.unspoken.ensures.end

pub returns-in-Err-clause-fault : goal.returns-in-Err-clause-fault
returns-in-Err-clause-fault g c = stopped-no-fault c.in-Err.end c.unspoken.ensures.end

pub returns-in-Err-clause-sink_fault : goal.returns-in-Err-clause-sink_fault
returns-in-Err-clause-sink_fault g c = λ e. inr (c.unspoken.ensures.sink_fault e)

pub returns-in-Err-clause-printed : goal.returns-in-Err-clause-printed
returns-in-Err-clause-printed g c = λ t. unprinted (g.O.Sink.written c.args.out.now) c.args.plan.command c.unspoken.ensures.outcome c.unspoken.ensures.results
