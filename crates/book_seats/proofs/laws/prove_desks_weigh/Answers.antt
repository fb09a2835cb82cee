use Rattle.book_seats.proofs.Weights.{weighs, weighs-asked}
use Rattle.book_seats.proofs.laws.prove_desks_weigh.Goals as goal

pub returns-clause-noted : goal.returns-clause-noted
returns-clause-noted g c = weighs

pub returns-clause-asked : goal.returns-clause-asked
returns-clause-asked g c = weighs-asked
