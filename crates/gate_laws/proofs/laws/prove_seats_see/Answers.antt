use Rattle.gate_laws.proofs.Seats.{seats-see}
use Rattle.gate_laws.proofs.laws.prove_seats_see.Goals as goal

pub returns : goal.returns
returns g c = seats-see g.P.Program g.S.Speller g.J.Begins.begins
