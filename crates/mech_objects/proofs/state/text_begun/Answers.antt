use Rattle.std.proofs.Common.{◌∙◌, ap, length}
use Rattle.spnego_core.proofs.ShortTexts.{nonce_length, started_short}
use Rattle.mech_objects.proofs.state.text_begun.Goals as goal

pub returns-in-Ok-clause-short : goal.returns-in-Ok-clause-short
returns-in-Ok-clause-short c =
    started_short _ _ _ _ (record { end = c.in-Ok.end; token = c.in-Ok.token }) c.in-Ok.ensures.named
    (ap length c.nonce_of.ensures ∙ nonce_length c.args.draws.now c.told-draws) c.in-Ok.ensures.exact
