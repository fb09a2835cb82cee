use Rattle.ap_exchange.proofs.Sealed.{sealed_opens}
use Rattle.ap_exchange.proofs.keys.sealed_data.Goals as goal

pub returns-clause-opens : goal.returns-clause-opens
returns-clause-opens c =
    sealed_opens c.of-keys.result c.args.key.now c.args.usage c.args.confounder.now c.args.octets.now c.of-keys.ensures c.told-confounder (λ i. c.fits-confounder i) (λ i. (c.type_inv.octets i).fits)
