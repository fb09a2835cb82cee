use Rattle.aes_cts.proofs.Entries.{MIX2-at}
use Rattle.aes_cts.proofs.tables.mix2.Goals as goal

pub returns : goal.returns
returns c = MIX2-at c.args.octet c.requires
