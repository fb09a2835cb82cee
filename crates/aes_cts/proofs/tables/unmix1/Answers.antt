use Rattle.aes_cts.proofs.Entries.{UNMIX1-at}
use Rattle.aes_cts.proofs.tables.unmix1.Goals as goal

pub returns : goal.returns
returns c = UNMIX1-at c.args.octet c.requires
