-- The receipts of the log's entries, of what is kept of the answer to a record.
use Rattle.std.specs.Prelude.{List, [], ◌∷◌, ◌++◌, take, Option, Some, None, Result, Ok, Err}
use Rattle.accept_core.specs.declared.answer.AdmitRefusal.{AdmitRefusal}
use Rattle.accept_book.specs.declared.book_answer.Negotiated.{Negotiated}
use Rattle.accept_book.specs.declared.book_answer.Admitted.{Admitted}
use Rattle.accept_core.specs.declared.entry.Receipt.{Receipt}
use Rattle.gss_server.specs.declared.answer.Kept.{Kept}

-- the receipts of the entries that a step added
abbrev pub of_step : Option Negotiated → List Receipt
of_step None = []
of_step (Some negotiated) = take negotiated.receipts.count negotiated.receipts.list

-- the receipt of an admitted call
abbrev pub of_call : Option (Result Admitted AdmitRefusal) → List Receipt
of_call None = []
of_call (Some (Err refusal)) = []
of_call (Some (Ok admitted)) = admitted.receipt ∷ []

-- the receipt of a context's end
abbrev pub of_end : Option (Result Receipt AdmitRefusal) → List Receipt
of_end None = []
of_end (Some (Err refusal)) = []
of_end (Some (Ok receipt)) = receipt ∷ []

-- the receipts of the entries that the log got for a record
abbrev pub receipts_of : Kept → List Receipt
receipts_of kept = of_step kept.negotiated ++ (of_call kept.admitted ++ of_end kept.ended)
