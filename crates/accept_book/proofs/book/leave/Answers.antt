use Rattle.std.proofs.Common.{◌∙◌, sym, arith, length}
use Rattle.accept_core.proofs.Steps.{gained-none}
use Rattle.accept_book.proofs.book.leave.Goals as goal

pub returns-clause-receipts : goal.returns-clause-receipts
returns-clause-receipts c = λ h. c.no_receipts.ensures ∙ sym (gained-none (length h) h (omega arith))
