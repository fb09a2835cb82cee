use Rattle.datagram_laws.proofs.Sends.{made-law}
use Rattle.datagram_laws.proofs.laws.prove_made.Goals as goal

pub returns : goal.returns
returns g c = made-law g.P.Post g.D.Draw
