use Rattle.std.proofs.Common.{◌∙◌, refl, subst, List, ℕ}
use Rattle.gss_client.specs.declared.refusal.ClientRefusal.TheVariants.{NoMemory}
use Rattle.gss_client.specs.Calling.{creation_call}
use Rattle.gss_client.specs.Exchanging.{Talks}
use Rattle.gss_client.specs.Talking.{exchanges}
use Rattle.gss_client.proofs.Parts.{stopped-memory}
use Rattle.gss_client.proofs.establish.call_with.Goals as goal

pub returns-in-Ok-clause-told : goal.returns-in-Ok-clause-told
returns-in-Ok-clause-told g c = λ t.
    subst (λ (octets : List ℕ). Talks (exchanges octets) (g.L.Link.wire c.args.link.now) (g.L.Link.wire c.exchange.new.link) c.exchange.result)
    (c.as_slice.ensures ∙ c.in-Ok.ensures.value)
    (c.exchange.ensures.told t)

pub returns-in-Err-clause-told : goal.returns-in-Err-clause-told
returns-in-Err-clause-told g c = λ t.
    stopped-memory (exchanges (creation_call c.args.terms c.args.xid c.args.proc c.args.handle.now c.args.token.now)) _ NoMemory refl
