use Rattle.std.proofs.Common.{◌∙◌, None, Some, refl, sym, arith, length}
use Rattle.accept_core.proofs.Steps.{gained-none, gained-more}
use Rattle.accept_book.proofs.Changes.{changed_same, changed_gone}
use Rattle.accept_book.proofs.Contexts.{same_windows, windows_gone}
use Rattle.accept_book.proofs.Comings.{comes_spent}
use Rattle.accept_book.proofs.book.refuse.Goals as goal

pub returns-in-None-clause-comes : goal.returns-in-None-clause-comes
returns-in-None-clause-comes c =
    let core = c.args.core.now in
    rw c.in-None.is (comes_spent core core None c.args.answer (record { answer = c.args.answer; receipts = c.no_receipts.result }) refl refl (changed_same core.table)
    (c.no_receipts.ensures ∙ sym (gained-none (length core.history) core.history (omega arith))) (same_windows core.table))

pub returns-in-Some-clause-comes : goal.returns-in-Some-clause-comes
returns-in-Some-clause-comes c =
    let core = c.args.core.now in
    let new = c.refuse-receipt.new.self in
    rw c.in-Some.is (comes_spent core new (Some c.in-Some.id) c.args.answer (record { answer = c.args.answer; receipts = c.one_receipt.result }) refl c.refuse-receipt.ensures.history
    (changed_gone core.table new.table c.in-Some.id c.refuse-receipt.ensures.gone c.refuse-receipt.ensures.others)
    (c.one_receipt.ensures
    ∙ rw (c.refuse-receipt.ensures.history, gained-more (length core.history) core.history _ (omega arith), gained-none (length core.history) core.history (omega arith), c.refuse-receipt.ensures.receipt) refl)
    (windows_gone core.table new.table c.in-Some.id c.refuse-receipt.ensures.gone c.refuse-receipt.ensures.others))
