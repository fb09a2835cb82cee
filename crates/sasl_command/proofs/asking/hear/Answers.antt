use Rattle.std.proofs.Common.{sym, subst, ℕ, List, Some, Ok, Err}
use Rattle.sasl_frames.specs.Messages.{Hears}
use Rattle.sasl_layer.specs.declared.facts.LayerFacts.{LayerFacts}
use Rattle.sasl_layer.specs.Layered.{received}
use Rattle.sasl_options.specs.declared.ending.RunEnd.TheVariants.{Finished, PeerEnded}
use Rattle.sasl_command.specs.Turns.{beside, end_of, end_of_read}
use Rattle.sasl_command.specs.Asking.{Awaits, Read, Asks}
use Rattle.sasl_command.proofs.Turning.{leads-one}
use Rattle.sasl_command.proofs.AskTurns.{heard, heard-not, unheard, finished, spoke-at, spoke-after, spoke-as, ran-as}
use Rattle.sasl_command.proofs.asking.hear.Goals as goal

pub returns-in-Ok-receive-clause-told : goal.returns-in-Ok-receive-clause-told
returns-in-Ok-receive-clause-told g c = λ t wish sending a.
    let after = received c.args.layer (Ok c.in-Ok-receive.echo) in
    spoke-as wish sending (Awaits c.args.layer) c.layered.result (ran-as c.layered.ensures c.facts-facts.ensures)
    (spoke-after wish sending (Awaits c.args.layer) (Read after c.in-Ok-receive.echo) (Some c.args.layer.facts) (Some c.in-Ok-receive.echo) Finished
    (leads-one (Asks wish sending) (Awaits c.args.layer) (Read after c.in-Ok-receive.echo) (heard wish sending c.args.layer a (g.L.Link.wire c.args.link.now) (g.L.Link.wire c.next_message.new.link) c.as_slice.result.now c.in-Ok-receive.echo (subst (λ (f : LayerFacts). Hears f.incoming (g.L.Link.wire c.args.link.now) (g.L.Link.wire c.next_message.new.link) (Ok c.as_slice.result.now)) c.facts-facts.ensures (subst (λ (o : List ℕ). Hears c.facts-facts.result.incoming (g.L.Link.wire c.args.link.now) (g.L.Link.wire c.next_message.new.link) (Ok o)) (sym c.as_slice.ensures) (c.in-Ok.ensures.told t))) c.in-Ok-receive.ensures.exact))
    (spoke-at wish sending (Read after c.in-Ok-receive.echo) Finished (finished wish sending after c.in-Ok-receive.echo (beside a (g.L.Link.wire c.next_message.new.link)))))

pub returns-in-Ok-clause-told : goal.returns-in-Ok-clause-told
returns-in-Ok-clause-told g c = λ t wish sending a.
    spoke-as wish sending (Awaits c.args.layer) c.layered-in-Err-receive.result (ran-as (rw c.end_of.ensures at c.layered-in-Err-receive.ensures) c.facts-facts.ensures)
    (spoke-at wish sending (Awaits c.args.layer) (end_of c.in-Err-receive.refusal) (heard-not wish sending c.args.layer a (g.L.Link.wire c.args.link.now) (g.L.Link.wire c.next_message.new.link) c.as_slice.result.now c.in-Err-receive.refusal (subst (λ (f : LayerFacts). Hears f.incoming (g.L.Link.wire c.args.link.now) (g.L.Link.wire c.next_message.new.link) (Ok c.as_slice.result.now)) c.facts-facts.ensures (subst (λ (o : List ℕ). Hears c.facts-facts.result.incoming (g.L.Link.wire c.args.link.now) (g.L.Link.wire c.next_message.new.link) (Ok o)) (sym c.as_slice.ensures) (c.in-Ok.ensures.told t))) c.in-Err-receive.ensures.exact))

pub returns-clause-told : goal.returns-clause-told
returns-clause-told g c = λ t wish sending a.
    spoke-as wish sending (Awaits c.args.layer) c.layered-in-Err.result (ran-as (rw c.end_of_read.ensures at c.layered-in-Err.ensures) c.facts-facts.ensures)
    (spoke-at wish sending (Awaits c.args.layer) (end_of_read c.in-Err.read PeerEnded) (unheard wish sending c.args.layer a (g.L.Link.wire c.args.link.now) (g.L.Link.wire c.next_message.new.link) c.in-Err.read (subst (λ (f : LayerFacts). Hears f.incoming (g.L.Link.wire c.args.link.now) (g.L.Link.wire c.next_message.new.link) (Err c.in-Err.read)) c.facts-facts.ensures (c.in-Err.ensures.told t))))
