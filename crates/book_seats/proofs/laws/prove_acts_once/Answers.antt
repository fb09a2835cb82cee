use Rattle.book_seats.proofs.Acts.{acts-once}
use Rattle.book_seats.proofs.laws.prove_acts_once.Goals as goal

pub returns : goal.returns
returns g c = λ old new all. acts-once g.P.Program old new all
