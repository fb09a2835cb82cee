use Rattle.aes_cts.proofs.Chaining.{added_octets}
use Rattle.aes_cts.proofs.stealing.added.Goals as goal

pub returns : goal.returns
returns c = added_octets c.args.a c.args.b
