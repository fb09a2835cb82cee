use Rattle.std.proofs.Common.{◌∙◌, refl, subst, List, ℕ}
use Rattle.sec_base.specs.Answers.{Gives}
use Rattle.gss_client.specs.Session.{SessionState}
use Rattle.gss_client.specs.declared.refusal.ClientRefusal.TheVariants.{NoMemory}
use Rattle.gss_client.specs.Judging.{destroyed_in}
use Rattle.gss_client.specs.Talk.{destroys}
use Rattle.gss_client.proofs.Parts.{stopped-memory}
use Rattle.gss_client.proofs.TalkSteps.{destroyed, undestroyed}
use Rattle.gss_client.proofs.NoFaults.{no-destroy-fault}
use Rattle.gss_client.proofs.session.Session.leave.Goals as goal

pub returns-in-Ok-exchange-clause-told : goal.returns-in-Ok-exchange-clause-told
returns-in-Ok-exchange-clause-told g c = λ t.
    destroyed c.args.self.now c.as_slice.result.now _ _ c.in-Ok-exchange.reply c.destroyed_in.result (c.as_slice.ensures ∙ c.in-Ok.ensures.value) (c.in-Ok-exchange.ensures.told t)
    (subst (λ (s : SessionState). Gives NoMemory (λ x. x) c.destroyed_in.result (destroyed_in s.outcome s.terms.service s.number s.xid c.in-Ok-exchange.reply)) c.self.view_is
    (subst (λ (octets : List ℕ). Gives NoMemory (λ x. x) c.destroyed_in.result (destroyed_in c.self.inside.outcome c.self.inside.terms.service c.self.inside.number c.self.inside.xid octets)) c.as_slice-in-Ok-exchange.ensures c.destroyed_in.ensures))

pub returns-in-Ok-exchange-clause-fault : goal.returns-in-Ok-exchange-clause-fault
returns-in-Ok-exchange-clause-fault g c = λ e. absurd (no-destroy-fault _ _ _ _ _ c.destroyed_in.result c.destroyed_in.ensures e)

pub returns-clause-told : goal.returns-clause-told
returns-clause-told g c = λ t. undestroyed c.args.self.now c.as_slice.result.now _ _ c.in-Err-exchange.refusal (c.as_slice.ensures ∙ c.in-Ok.ensures.value) (c.in-Err-exchange.ensures.told t)

pub returns-in-Err-clause-told : goal.returns-in-Err-clause-told
returns-in-Err-clause-told g c = λ t. stopped-memory (destroys c.args.self.now) _ NoMemory refl
