-- The receipts of what a book answered are its log.
use Rattle.std.specs.Prelude.{◌≡◌, List, [], length, map, reverse, Some}
use Rattle.std.specs.List.{flat_map}
use Rattle.accept_book.specs.Booking.{BookOf}
use Rattle.accept_core.specs.Entering.{given, gained}
use Rattle.accept_book.specs.RecordShown.{Asked, AskedStep, AskedLook, AskedAdmit, AskedEnd}
use Rattle.accept_core.specs.declared.entry.Entry.{Entry}
use Rattle.accept_core.specs.declared.entry.Receipt.{Receipt}
use Rattle.gss_server.specs.Asking.{Asking, BookAnswers}
use Rattle.gss_server.specs.Receipts.{of_end}

-- the receipts that an answer has
abbrev pub receipts_in : Asked Receipt → List Receipt
receipts_in (AskedStep id token now draws answer) = given answer.receipts
receipts_in (AskedLook id now answer) = []
receipts_in (AskedAdmit lease seq service procedure args answer) = of_end (Some answer)
receipts_in (AskedEnd lease seq answer) = of_end (Some answer)

-- the log that answers tell by their receipts, the newest entry first
unfoldable pub logged : List (Asked Receipt) → List Entry
logged asked = reverse (map (λ receipt. receipt.entry) (flat_map receipts_in asked))

-- the receipts of a book's answers, one after the other, are the entries that its log gained, in
-- order, each with its place
abbrev pub InPlaceLaw : Type 0
InPlaceLaw = (asked : List (Asked Receipt)) (old new : BookOf) → Asking BookAnswers old asked new
    → flat_map receipts_in asked ≡ gained (length old.core.history) new.core.history
