use Rattle.std.proofs.Common.{rules}
use Rattle.accept_book.proofs.book.Book.open.Goals as goal

pub returns-in-Ok-clause-greatest : goal.returns-in-Ok-clause-greatest
returns-in-Ok-clause-greatest c = search rules
