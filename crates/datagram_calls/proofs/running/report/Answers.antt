use Rattle.std.proofs.Common.{inl, inr, refl}
use Rattle.client_command.proofs.Saying.{unprinted}
use Rattle.datagram_calls.proofs.running.report.Goals as goal

pub returns-in-Ok-clause-kept : goal.returns-in-Ok-clause-kept
returns-in-Ok-clause-kept g c = inl (refl, refl, refl)

pub returns-in-Err-clause-kept : goal.returns-in-Err-clause-kept
returns-in-Err-clause-kept g c = inr (c.unspoken.ensures.outcome, c.unspoken.ensures.results, c.unspoken.ensures.end)

pub returns-in-Err-clause-sink_fault : goal.returns-in-Err-clause-sink_fault
returns-in-Err-clause-sink_fault g c = λ e. inr (c.unspoken.ensures.sink_fault e)

pub returns-in-Err-clause-printed : goal.returns-in-Err-clause-printed
returns-in-Err-clause-printed g c = λ t. unprinted (g.O.Sink.written c.args.out.now) c.args.command c.unspoken.ensures.outcome c.unspoken.ensures.results
