use Rattle.aes_cts.proofs.Entries.{INVERSE_SBOX-at}
use Rattle.aes_cts.proofs.tables.unsub.Goals as goal

pub returns : goal.returns
returns c = INVERSE_SBOX-at c.args.octet c.requires
