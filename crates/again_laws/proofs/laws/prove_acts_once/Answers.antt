use Rattle.again_laws.proofs.Once.{book-acts-once, book-answered, book-each}
use Rattle.again_laws.proofs.laws.prove_acts_once.Goals as goal

pub returns-clause-acts_once : goal.returns-clause-acts_once
returns-clause-acts_once c = book-acts-once

pub returns-clause-answered : goal.returns-clause-answered
returns-clause-answered c = book-answered

pub returns-clause-each_once : goal.returns-clause-each_once
returns-clause-each_once c = book-each
