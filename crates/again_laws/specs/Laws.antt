-- A call that is sent again acts once, over a book.
use Rattle.std.specs.Prelude.{ℕ, ◌<◌, ◌≤◌, ◌*◌, List, []}
use Rattle.std.specs.List.{AllByRecursion}
use Rattle.accept_core.specs.declared.entry.Entry.{Entry}
use Rattle.accept_core.specs.Legal.{Legal}
use Rattle.accept_book.specs.Booking.{BookOf}
use Rattle.accept_book.specs.RecordShown.{Asked, booked}
use Rattle.accept_book.specs.declared.book_answer.Admitted.{Admitted}
use Rattle.accept_core.specs.declared.entry.Receipt.{Receipt}
use Rattle.gss_server.specs.Asking.{Asking, BookAnswers}
use Rattle.history_laws.specs.Seen.{IsEmpty}
use Rattle.again_gate.specs.Again.{AgainOf, opened_gate}
use Rattle.again_gate.specs.Turns.{Turned, Turning}
use Rattle.again_laws.specs.Acting.{acting, xids, NoneAgain, OneEach, AllAnswered}
use Rattle.again_laws.specs.Sending.{Sent, Sending, IsFrom}
use Rattle.again_laws.specs.Sole.{Within}

-- a book's log
abbrev pub log_of : BookOf → List Entry
log_of book = book.core.history

-- a book answers what a gate is asked, but for what becomes of calls
abbrev pub GateAnswers : BookOf → Asked Admitted → BookOf → Type 0
GateAnswers old one new = BookAnswers old (booked one) new

-- at no time more contexts live than the book may have
abbrev pub WithinLaw : Type 0
WithinLaw = (first last : BookOf) (asked : List (Asked Receipt)) → IsEmpty first
    → Asking BookAnswers first asked last → Within first.core.table.limit (log_of last)

-- records were answered through a gate over a book, from the opening of both on: the book had no
-- entries and no contexts, the gate keeps so many calls of a context, of a result at most so many
-- octets, and has a place for each context that the book may have, and the log that it comes to is
-- legal
pub record Through (kept contexts most : ℕ) (book : BookOf) (turns : List Turned)
    (new : AgainOf BookOf) : Type 0 where
  pub empty : IsEmpty book
  pub places : book.core.table.limit ≤ contexts
  pub turned : Turning GateAnswers (opened_gate book contexts kept most) turns new
  pub legal : Legal new.gate.core.width (log_of new.gate)

-- no call of a context that acts has a transaction number that stands among the last calls of the
-- context that acted, as many as are kept
abbrev pub ActsOnce : Type 0
ActsOnce = (kept contexts most : ℕ) (book : BookOf) (turns : List Turned)
    (new : AgainOf BookOf)
    → Through kept contexts most book turns new → (id : ℕ)
    → NoneAgain kept [] (xids (acting id turns))

-- each admission that is answered Ok has the outcome of a call of its context that acted, with its
-- record's transaction number, unless memory was wanted
abbrev pub AnsweredOnce : Type 0
AnsweredOnce = (kept contexts most : ℕ) (book : BookOf) (turns : List Turned)
    (new : AgainOf BookOf)
    → Through kept contexts most book turns new → (id : ℕ) → AllAnswered id (acting id turns) turns

-- where at least twice as many calls are kept as the window is wide, and the calls of a context
-- came by its session's records: no two that acted have one transaction number. So each admission
-- that is answered Ok has the outcome of the one call that acted with its transaction number
abbrev pub EachOnce : Type 0
EachOnce = (kept contexts most : ℕ) (book : BookOf) (turns : List Turned)
    (new : AgainOf BookOf)
    → Through kept contexts most book turns new → 0 < book.core.width → 2 * book.core.width ≤ kept
    → (id : ℕ) (sent : List Sent) → Sending sent → AllByRecursion (IsFrom sent) (acting id turns)
    → OneEach (acting id turns)
