use Rattle.aes_cts.proofs.Entries.{UNMIX0-at}
use Rattle.aes_cts.proofs.tables.unmix0.Goals as goal

pub returns : goal.returns
returns c = UNMIX0-at c.args.octet c.requires
