-- The receipts of what desks were answered are the log of the book that answered them.
use Rattle.std.specs.Prelude.{◌≡◌, ◌≤◌, ℕ, List, []}
use Rattle.std.specs.List.{flat_map}
use Rattle.accept_book.specs.Booking.{BookOf}
use Rattle.accept_core.specs.Entering.{gained}
use Rattle.accept_core.specs.declared.entry.Receipt.{Receipt}
use Rattle.gss_server.specs.Asking.{Asking, BookAnswers}
use Rattle.book_seats.specs.Notes.{Note, asked_by, questions_of}
use Rattle.book_seats.specs.Weights.{weigh, total}
use Rattle.history_laws.specs.Receipts.{receipts_in}

-- the receipts of all desks of a history are the entries of the log, each once, none missing and
-- none invented: however receipts are weighed, those of the desks weigh together what the log does
abbrev pub OfAllDesksLaw : Type 0 → Type 0
OfAllDesksLaw T = (desks : ℕ) (weight : Receipt → ℕ) (all : List (Note T))
    (first last : BookOf)
    → first.core.history ≡ [] → Asking BookAnswers first (questions_of all) last
    → ((desk : ℕ) → desks ≤ desk → asked_by desk all ≡ [])
    → total desks (λ desk. weigh weight (flat_map receipts_in (asked_by desk all)))
    ≡ weigh weight (gained 0 last.core.history)
