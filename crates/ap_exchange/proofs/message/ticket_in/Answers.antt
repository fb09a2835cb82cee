use Rattle.std.proofs.Common.{is_ok, ap}
use Rattle.std.proofs.lemmas.Bool.{and_from}
use Rattle.ap_exchange.proofs.Fits.{octets_are}
use Rattle.ap_exchange.proofs.message.ticket_in.Goals as goal

pub returns-in-Ok-clause-kept : goal.returns-in-Ok-clause-kept
returns-in-Ok-clause-kept c =
    and_from _ _ (octets_are c.args.octets.now (λ k. (c.type_inv.octets k).fits)) (ap is_ok c.in-Ok.ensures.exact)
