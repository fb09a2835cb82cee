use Rattle.std.proofs.Common.{IsTrue}
use Rattle.sasl_gssapi.specs.Ends.{init_by, step_by}
use Rattle.sec_base.proofs.InARow.{put-told}
use Rattle.sasl_command.proofs.AskTurns.{replied, replied-cut, replied-not, second-step, unreplied}
use Rattle.sasl_command.proofs.asking.reply.Goals as goal

pub returns-in-Ok-write_message-clause-told : goal.returns-in-Ok-write_message-clause-told
returns-in-Ok-write_message-clause-told g c = λ t wish sending a.
    let tells : IsTrue (g.L.Link.tells c.next_message.new.link) = rw c.in-Ok.ensures.tells t in
    replied wish sending (init_by c.args.end (λ b. (goal.Mech-dyn g b).meaning b.1)) a (g.L.Link.wire c.args.link.now) (g.L.Link.wire c.next_message.new.link) (g.L.Link.wire c.write_message.new.link) c.as_slice.result.now (step_by c.in-Ok-step.step (λ b. (goal.Mech-dyn g b).meaning b.1)) (rw c.as_slice.ensures (c.in-Ok.ensures.told t)) c.in-Ok-step.ensures.exact (rw c.message_of.ensures at (put-told tells c.in-Ok-write_message.ensures.told))

pub returns-in-Ok-step-clause-told : goal.returns-in-Ok-step-clause-told
returns-in-Ok-step-clause-told g c = λ t wish sending a.
    let tells : IsTrue (g.L.Link.tells c.next_message.new.link) = rw c.in-Ok.ensures.tells t in
    let p = rw c.message_of.ensures at c.in-Err-write_message.ensures.told in
    replied-cut wish sending (init_by c.args.end (λ b. (goal.Mech-dyn g b).meaning b.1)) a (g.L.Link.wire c.args.link.now) (g.L.Link.wire c.next_message.new.link) (g.L.Link.wire c.write_message.new.link) c.as_slice.result.now (step_by c.in-Ok-step.step (λ b. (goal.Mech-dyn g b).meaning b.1)) p.0 (rw c.as_slice.ensures (c.in-Ok.ensures.told t)) c.in-Ok-step.ensures.exact (put-told tells p.1)

pub returns-in-Ok-clause-told : goal.returns-in-Ok-clause-told
returns-in-Ok-clause-told g c = λ t wish sending a.
    rw c.end_of.ensures (replied-not wish sending (init_by c.args.end (λ b. (goal.Mech-dyn g b).meaning b.1)) a (g.L.Link.wire c.args.link.now) (g.L.Link.wire c.next_message.new.link) c.as_slice.result.now c.in-Err-step.refusal (rw c.as_slice.ensures (c.in-Ok.ensures.told t)) c.in-Err-step.ensures.exact)

pub returns-clause-told : goal.returns-clause-told
returns-clause-told g c = λ t wish sending a.
    rw c.end_of_read.ensures (unreplied wish sending (init_by c.args.end (λ b. (goal.Mech-dyn g b).meaning b.1)) a (g.L.Link.wire c.args.link.now) (g.L.Link.wire c.next_message.new.link) c.in-Err.read (c.in-Err.ensures.told t))

pub returns-in-Ok-write_message-clause-second : goal.returns-in-Ok-write_message-clause-second
returns-in-Ok-write_message-clause-second g c = λ first. second-step (init_by c.args.end (λ b. (goal.Mech-dyn g b).meaning b.1)) c.as_slice.result.now (step_by c.in-Ok-step.step (λ b. (goal.Mech-dyn g b).meaning b.1)) first c.in-Ok-step.ensures.exact
