use Rattle.aes_cts.proofs.Entries.{SBOX-at}
use Rattle.aes_cts.proofs.tables.sub.Goals as goal

pub returns : goal.returns
returns c = SBOX-at c.args.octet c.requires
