use Rattle.aes_cts.proofs.Entries.{MIX3-at}
use Rattle.aes_cts.proofs.tables.mix3.Goals as goal

pub returns : goal.returns
returns c = MIX3-at c.args.octet c.requires
