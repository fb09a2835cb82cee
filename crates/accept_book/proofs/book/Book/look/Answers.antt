use Rattle.std.proofs.Common.{rules}
use Rattle.accept_book.proofs.book.Book.look.Goals as goal

pub returns : goal.returns
returns c = search rules
