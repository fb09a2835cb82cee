use Rattle.std.proofs.Common.{◌∙◌, ap}
use Rattle.krb_files.specs.Granted.{Granted}
use Rattle.ap_exchange.specs.Request.{label_of}
use Rattle.ap_exchange.proofs.Started.{started}
use Rattle.ap_exchange.proofs.request.ApInit.start.Goals as goal

pub returns-clause-exact : goal.returns-clause-exact
returns-clause-exact c =
    started c.args.credential.now c.args.stamp c.args.draws.now _ c.in_ok-ticket.ticket c.credential.inside.session c.subkey_of-subkey.result c.label.result c.label-2.result c.binding_hash-hash.result c.in_ok-token.token
    (rw (c.as_slice.ensures ∙ ap (λ (g : Granted). g.ticket) c.credential.view_is) at c.in_ok-ticket.ensures.exact)
    (ap (λ (g : Granted). g.session) c.credential.view_is)
    (rw c.etype.ensures at c.subkey_of-subkey.ensures)
    (c.label.ensures.value ∙ ap (λ (g : Granted). label_of g.client) c.credential.view_is)
    (c.label-2.ensures.value ∙ ap (λ (g : Granted). label_of g.server) c.credential.view_is)
    c.binding_hash-hash.ensures
    c.in_ok-token.ensures
