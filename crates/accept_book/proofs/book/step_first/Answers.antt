use Rattle.accept_book.proofs.book.step_first.Goals as goal

pub returns : goal.returns
returns c = record { exact = rw c.new.ensures at c.step.ensures.exact; short = c.step.ensures.short }
