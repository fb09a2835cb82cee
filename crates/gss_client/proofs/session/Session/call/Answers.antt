use Rattle.std.proofs.Common.{refl, subst, List, ℕ}
use Rattle.sec_base.specs.Answers.{Gives}
use Rattle.gss_client.specs.declared.refusal.ClientRefusal.TheVariants.{NoMemory}
use Rattle.gss_client.specs.Calling.{data_call}
use Rattle.gss_client.specs.Judging.{result_taken}
use Rattle.gss_client.proofs.TalkSteps.{called, uncalled}
use Rattle.gss_client.proofs.session.Session.call.Goals as goal

pub returns-in-Ok-clause-told : goal.returns-in-Ok-clause-told
returns-in-Ok-clause-told g c = λ t.
    called c.args.self c.args.procedure c.args.args.now c.args.confounder.now (data_call c.args.self c.args.procedure c.args.args.now c.args.confounder.now) _ _ c.in-Ok.reply c.take_result.result refl (c.in-Ok.ensures.told t)
    (subst (λ (octets : List ℕ). Gives NoMemory (λ p. p) c.take_result.result (result_taken c.args.self octets)) c.as_slice.ensures c.take_result.ensures.judged)

pub returns-in-Err-clause-told : goal.returns-in-Err-clause-told
returns-in-Err-clause-told g c = λ t.
    uncalled c.args.self c.args.procedure c.args.args.now c.args.confounder.now (data_call c.args.self c.args.procedure c.args.args.now c.args.confounder.now) _ _ c.in-Err.refusal refl (c.in-Err.ensures.told t)
