use Rattle.aes_cts.proofs.Entries.{UNMIX2-at}
use Rattle.aes_cts.proofs.tables.unmix2.Goals as goal

pub returns : goal.returns
returns c = UNMIX2-at c.args.octet c.requires
