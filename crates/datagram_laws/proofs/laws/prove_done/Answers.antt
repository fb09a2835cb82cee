use Rattle.datagram_laws.proofs.Ruled.{done-law}
use Rattle.datagram_laws.proofs.laws.prove_done.Goals as goal

pub returns : goal.returns
returns c = done-law
