use Rattle.std.proofs.Common.{refl, subst, List, ℕ}
use Rattle.sec_base.specs.Answers.{Gives}
use Rattle.gss_client.specs.declared.refusal.ClientRefusal.TheVariants.{NoMemory}
use Rattle.init_ends.specs.Ends.{end_by}
use Rattle.init_ends.specs.Initiating.{end_step}
use Rattle.gss_client.specs.Calling.{creation_call}
use Rattle.gss_client.specs.Creation.{offer_means, created_means, reply_means}
use Rattle.gss_client.specs.Judging.{creation_by}
use Rattle.gss_client.proofs.TalkSteps.{as-said, turned, unturned}
use Rattle.gss_client.proofs.NoFaults.{no-creation-fault}
use Rattle.gss_client.proofs.establish.turn.Goals as goal

pub returns-in-Ok-clause-told : goal.returns-in-Ok-clause-told
returns-in-Ok-clause-told g c = λ t.
    turned end_step c.args.terms c.args.xid c.args.proc (offer_means c.args.offer (λ b. (goal.Mech-dyn g b).meaning b.1)) (creation_call c.args.terms c.args.xid c.args.proc c.args.offer.handle c.args.offer.token) _ _ c.in-Ok.reply (reply_means c.creation_step-made.result (λ b. (goal.Mech-dyn g b).meaning b.1)) refl
    (rw (c.as_slice.ensures, c.as_slice-2.ensures) at (c.in-Ok.ensures.told t))
    (as-said c.creation_step-made.result (λ b. (goal.Mech-dyn g b).meaning b.1) (creation_by end_step (end_by c.args.offer.end (λ b. (goal.Mech-dyn g b).meaning b.1)) c.args.xid c.in-Ok.reply)
    (subst (λ (octets : List ℕ). Gives NoMemory (λ made. created_means made (λ b. (goal.Mech-dyn g b).meaning b.1)) c.creation_step-made.result (creation_by end_step (end_by c.args.offer.end (λ b. (goal.Mech-dyn g b).meaning b.1)) c.args.xid octets)) c.as_slice-in-Ok.ensures c.creation_step-made.ensures.exact))

pub returns-in-Ok-clause-fault : goal.returns-in-Ok-clause-fault
returns-in-Ok-clause-fault g c = λ e. absurd (no-creation-fault c.creation_step-made.result (λ made. created_means made (λ b. (goal.Mech-dyn g b).meaning b.1)) end_step _ _ _ c.creation_step-made.ensures.exact e)

pub returns-in-Err-clause-told : goal.returns-in-Err-clause-told
returns-in-Err-clause-told g c = λ t. rw c.spend.ensures
    (unturned end_step c.args.terms c.args.xid c.args.proc (offer_means c.args.offer (λ b. (goal.Mech-dyn g b).meaning b.1)) (creation_call c.args.terms c.args.xid c.args.proc c.args.offer.handle c.args.offer.token) _ _ c.in-Err.refusal refl (rw (c.as_slice.ensures, c.as_slice-2.ensures) at (c.in-Err.ensures.told t)))
