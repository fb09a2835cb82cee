use Rattle.aes_cts.proofs.Entries.{UNMIX3-at}
use Rattle.aes_cts.proofs.tables.unmix3.Goals as goal

pub returns : goal.returns
returns c = UNMIX3-at c.args.octet c.requires
