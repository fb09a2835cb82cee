use Rattle.std.proofs.Common.{◌≡◌, ◌∙◌, ap, Err}
use Rattle.gss_client.specs.declared.refusal.ClientRefusal.{ClientRefusal}
use Rattle.gss_client.specs.declared.refusal.ClientRefusal.TheVariants.{LinkFault}
use Rattle.gss_client.proofs.NoFaults.{no-call-fault}
use Rattle.gss_client.proofs.session.Session.take_result.Goals as goal

pub returns-in-Err-clause-fault : goal.returns-in-Err-clause-fault
returns-in-Err-clause-fault c = λ e.
    let is : c.in-Err.refusal ≡ LinkFault = cc in
    no-call-fault _ _ _ _ _ c.call_result.result c.call_result.ensures (c.in-Err.is ∙ ap (λ (d : ClientRefusal). Err d) is)
