use Rattle.datagram_laws.proofs.Sends.{sends-law}
use Rattle.datagram_laws.proofs.laws.prove_sends.Goals as goal

pub returns : goal.returns
returns c = sends-law
