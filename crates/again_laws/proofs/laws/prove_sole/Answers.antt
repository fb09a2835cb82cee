use Rattle.again_laws.proofs.Books.{book-sole, within-book}
use Rattle.again_laws.proofs.laws.prove_sole.Goals as goal

pub returns-clause-sole : goal.returns-clause-sole
returns-clause-sole c = book-sole

pub returns-clause-within : goal.returns-clause-within
returns-clause-within c = within-book
