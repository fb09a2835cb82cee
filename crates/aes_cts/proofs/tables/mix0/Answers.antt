use Rattle.aes_cts.proofs.Entries.{MIX0-at}
use Rattle.aes_cts.proofs.tables.mix0.Goals as goal

pub returns : goal.returns
returns c = MIX0-at c.args.octet c.requires
