use Rattle.std.proofs.Common.{◌≡◌, ◌∙◌, refl, sym, ap, inr, List, Result, Ok, Err}
use Rattle.spnego_core.specs.declared.setup.MechCred.{MechCred}
use Rattle.client_command.proofs.ByCredentials.{loaded, unlinked}
use Rattle.client_command.proofs.Ended.{reported-begun, reported-fault}
use Rattle.client_command.proofs.Saying.{unprinted}
use Rattle.client_command.proofs.Spoken.{returned}
use Rattle.client_options.specs.declared.ending.RunEnd.{RunEnd}
use Rattle.client_command.proofs.client.run_by.Goals as goal

same-creds : {given : Result (List MechCred) RunEnd} {one other : List MechCred} → given ≡ Ok one → given ≡ Ok other → one ≡ other
same-creds here there = cc

pub speak-talk-requires-clause-list : goal.speak-talk-requires-clause-list
speak-talk-requires-clause-list g c = rw c.in-Ok.is at c.requires.own

pub speak-talk-requires-clause-bare : goal.speak-talk-requires-clause-bare
speak-talk-requires-clause-bare g c = λ off. rw c.in-Ok.is at c.requires.bare off

pub returns-in-Ok-clause-ends : goal.returns-in-Ok-clause-ends
returns-in-Ok-clause-ends g c = rw c.in-Ok.is (reported-begun c.speak-talk.result.parting c.report.ensures.kept)

pub returns-in-Ok-clause-silent : goal.returns-in-Ok-clause-silent
returns-in-Ok-clause-silent g c = rw c.in-Ok.is tt

pub returns-in-Ok-clause-spoke : goal.returns-in-Ok-clause-spoke
returns-in-Ok-clause-spoke g c = λ list is t.
    rw (same-creds is c.in-Ok.is) (returned c.speak-talk.result.parting (c.speak-talk.ensures.told t) c.report.ensures.kept)

pub returns-in-Ok-clause-unloaded : goal.returns-in-Ok-clause-unloaded
returns-in-Ok-clause-unloaded g c = loaded (reported-begun c.speak-talk.result.parting c.report.ensures.kept)

pub returns-in-Ok-clause-link_fault : goal.returns-in-Ok-clause-link_fault
returns-in-Ok-clause-link_fault g c = λ e. c.speak-talk.ensures.fault (reported-fault c.speak-talk.result.parting c.report.ensures.kept e)

pub returns-in-Err-clause-sink_fault : goal.returns-in-Err-clause-sink_fault
returns-in-Err-clause-sink_fault g c = λ e. inr (c.unspoken.ensures.sink_fault e)

pub returns-in-Err-clause-ends : goal.returns-in-Err-clause-ends
returns-in-Err-clause-ends g c = rw c.in-Err.is c.unspoken.ensures.end

pub returns-in-Err-clause-spoke : goal.returns-in-Err-clause-spoke
returns-in-Err-clause-spoke g c = λ list is t.
    let bad : ◌≡◌ {A = Result (List MechCred) RunEnd} (Ok list) (Err c.in-Err.end) = sym is ∙ c.in-Err.is in cc

pub returns-in-Err-clause-unloaded : goal.returns-in-Err-clause-unloaded
returns-in-Err-clause-unloaded g c = λ u. c.in-Err.is ∙ ap Err (sym c.unspoken.ensures.end)

pub returns-in-Err-clause-link_fault : goal.returns-in-Err-clause-link_fault
returns-in-Err-clause-link_fault g c = unlinked (rw c.in-Err.is at c.requires.unbegun) c.unspoken.ensures.end

pub returns-in-Err-clause-silent : goal.returns-in-Err-clause-silent
returns-in-Err-clause-silent g c = rw c.in-Err.is (record { same = refl; none = c.unspoken.ensures.outcome; empty = c.unspoken.ensures.results })

pub returns-in-Err-clause-printed : goal.returns-in-Err-clause-printed
returns-in-Err-clause-printed g c = λ t. unprinted (g.O.Sink.written c.args.out.now) c.args.plan.command c.unspoken.ensures.outcome c.unspoken.ensures.results
