use Rattle.aes_cts.proofs.Entries.{MIX1-at}
use Rattle.aes_cts.proofs.tables.mix1.Goals as goal

pub returns : goal.returns
returns c = MIX1-at c.args.octet c.requires
